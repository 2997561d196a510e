use Rattle.std.proofs.Common.{◌≡◌, Some, length, map, refl, ap, arith}
use Rattle.std.specs.List.{slice_get}
use Rattle.std.proofs.lemmas.Option.{slice_get_read}
use Rattle.grasp_types.specs.Address.{locator_item, IsLocator}
use Rattle.grasp_wire.specs.Parts.{shortest_parts}
use Rattle.grasp_wire.specs.declared.writing.put.Full.{Full}
use Rattle.grasp_wire.proofs.Putting.{puts_err, one_more_put, one_not_put, all_put}
use Rattle.grasp_wire.proofs.writing.lists.put_locators.Goals as goal

pub loop-locator-preserved : goal.loop-locator-preserved
loop-locator-preserved g c =
    let items = c.slice-locator-items.result.now in
    let i = c.loop-locator.locator-index in
    let got : Some c.locator-item.result ≡ slice_get c.args.locators.now i = cc (slice_get_read items (length items) i c.locator-item.result refl c.loop-locator-test.true c.locator-item.is, c.slice-locator-items.ensures.value) in
    one_more_put Full g.P.Put.Keeps g.P.Put.Counts (Unit {0}) locator_item IsLocator c.args.locators.now i c.locator-item.result (g.P.Put.place c.args.out.now) (g.P.Put.place c.loop-locator.out) (g.P.Put.place c.put_locator.new.out) got c.loop-locator.invariant c.in_ok-put_locator.ensures.puts (λ k. c.in_ok-put_locator.ensures.range)

pub returns-in_err-put_locator-clause-puts : goal.returns-in_err-put_locator-clause-puts
returns-in_err-put_locator-clause-puts g c =
    let items = c.slice-locator-items.result.now in
    let i = c.loop-locator.locator-index in
    let got : Some c.locator-item.result ≡ slice_get c.args.locators.now i = cc (slice_get_read items (length items) i c.locator-item.result refl c.loop-locator-test.true c.locator-item.is, c.slice-locator-items.ensures.value) in
    let n = one_not_put Full g.P.Put.Keeps g.P.Put.Counts (Unit {0}) locator_item IsLocator c.args.locators.now i c.locator-item.result (g.P.Put.place c.args.out.now) (g.P.Put.place c.loop-locator.out) (g.P.Put.place c.put_locator.new.out) c.in_err-put_locator.field-0.0 got c.loop-locator.invariant c.in_err-put_locator.ensures.puts in
    puts_err Full g.P.Put.Keeps g.P.Put.Counts (g.P.Put.place c.args.out.now) (g.P.Put.place c.put_locator.new.out) (shortest_parts (map locator_item c.args.locators.now)) c.from_residual.result c.in_err-put_locator.field-0.0 c.from_residual.ensures.0 n

pub returns-clause-range : goal.returns-clause-range
returns-clause-range g c = record {
  some = c.slice-locator-items.ensures.some;
  each = (all_put Full g.P.Put.Keeps g.P.Put.Counts (Unit {0}) locator_item IsLocator c.args.locators.now c.loop-locator.locator-index (g.P.Put.place c.args.out.now) (g.P.Put.place c.loop-locator.out) (omega (arith, ap length c.slice-locator-items.ensures.value, c.loop-locator-test.false)) c.loop-locator.invariant).1 tt;
}
