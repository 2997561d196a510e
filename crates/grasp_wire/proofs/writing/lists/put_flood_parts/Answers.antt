use Rattle.std.proofs.Common.{◌≡◌, Some, length, map, refl, ap, arith}
use Rattle.std.specs.List.{slice_get}
use Rattle.std.proofs.lemmas.Option.{slice_get_read}
use Rattle.grasp_types.specs.Message.{flood_part_item, IsFloodPart}
use Rattle.grasp_wire.specs.Parts.{shortest_parts}
use Rattle.grasp_wire.specs.declared.writing.put.Full.{Full}
use Rattle.grasp_wire.proofs.Putting.{puts_err, one_more_put, one_not_put, all_put}
use Rattle.grasp_wire.proofs.writing.lists.put_flood_parts.Goals as goal

pub loop-part-preserved : goal.loop-part-preserved
loop-part-preserved g c =
    let items = c.slice-part-items.result.now in
    let i = c.loop-part.part-index in
    let got : Some c.part-item.result ≡ slice_get c.args.parts.now i = cc (slice_get_read items (length items) i c.part-item.result refl c.loop-part-test.true c.part-item.is, c.slice-part-items.ensures.value) in
    one_more_put Full g.P.Put.Keeps g.P.Put.Counts g.P.Put.Keeps flood_part_item IsFloodPart c.args.parts.now i c.part-item.result (g.P.Put.place c.args.out.now) (g.P.Put.place c.loop-part.out) (g.P.Put.place c.put_flood_part.new.out) got c.loop-part.invariant c.in_ok-put_flood_part.ensures.puts c.in_ok-put_flood_part.ensures.range

pub returns-in_err-put_flood_part-clause-puts : goal.returns-in_err-put_flood_part-clause-puts
returns-in_err-put_flood_part-clause-puts g c =
    let items = c.slice-part-items.result.now in
    let i = c.loop-part.part-index in
    let got : Some c.part-item.result ≡ slice_get c.args.parts.now i = cc (slice_get_read items (length items) i c.part-item.result refl c.loop-part-test.true c.part-item.is, c.slice-part-items.ensures.value) in
    let n = one_not_put Full g.P.Put.Keeps g.P.Put.Counts g.P.Put.Keeps flood_part_item IsFloodPart c.args.parts.now i c.part-item.result (g.P.Put.place c.args.out.now) (g.P.Put.place c.loop-part.out) (g.P.Put.place c.put_flood_part.new.out) c.in_err-put_flood_part.field-0.0 got c.loop-part.invariant c.in_err-put_flood_part.ensures.puts in
    puts_err Full g.P.Put.Keeps g.P.Put.Counts (g.P.Put.place c.args.out.now) (g.P.Put.place c.put_flood_part.new.out) (shortest_parts (map flood_part_item c.args.parts.now)) c.from_residual.result c.in_err-put_flood_part.field-0.0 c.from_residual.ensures.0 n

pub returns-clause-range : goal.returns-clause-range
returns-clause-range g c = λ k. record {
  some = c.slice-part-items.ensures.some;
  each = (all_put Full g.P.Put.Keeps g.P.Put.Counts g.P.Put.Keeps flood_part_item IsFloodPart c.args.parts.now c.loop-part.part-index (g.P.Put.place c.args.out.now) (g.P.Put.place c.loop-part.out) (omega (arith, ap length c.slice-part-items.ensures.value, c.loop-part-test.false)) c.loop-part.invariant).1 k;
}
