use Rattle.std.proofs.Common.{length, None, sym, ap, ◌∙◌, arith}
use Rattle.std.proofs.lemmas.List.{length-map}
use Rattle.grasp_cbor.specs.Item.{data_item_of, items_of}
use Rattle.grasp_wire.specs.ReadParts.{locator_in}
use Rattle.grasp_wire.proofs.Runs.{begun, begun_with, more_pushed}
use Rattle.grasp_wire.proofs.reading.locator.locators_between.Goals as goal

pub returns-in_default-2 : goal.returns-in_default-2
returns-in_default-2 c =
    sym (begun locator_in (items_of c.args.parts.now) c.args.from c.args.to (data_item_of c.in-Some.first.now) None c.if-to-from.false (sym c.in-Some.ensures) (sym c.in_default-2.is ∙ c.in_ok-first.ensures))

pub slice_bounds-item-items-end : goal.slice_bounds-item-items-end
slice_bounds-item-items-end c = omega (arith, c.requires, ap length c.slice.ensures, length-map c.slice.result.now data_item_of)

pub loop-item-init : goal.loop-item-init
loop-item-init c =
    rw c.in_ok-held.ensures (begun_with locator_in data_item_of c.slice.result.now (items_of c.args.parts.now) c.args.from c.args.to (data_item_of c.in-Some.first.now) c.in-Some-2.first c.slice.ensures c.if-to-from.false (sym c.in-Some.ensures) (sym c.in-Some-2.is ∙ c.in_ok-first.ensures))

pub loop-item-preserved : goal.loop-item-preserved
loop-item-preserved c =
    c.loop-item.invariant ∙ more_pushed locator_in data_item_of _ c.loop-item.item-index c.item-item.result _ c.loop-item.held _ c.loop-item-test.true c.item-item.is c.if-not-branch.false c.in_ok-push_locator.ensures
