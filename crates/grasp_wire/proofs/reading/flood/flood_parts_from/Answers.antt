use Rattle.std.proofs.Common.{length, None, sym, ap, ◌∙◌, arith}
use Rattle.std.proofs.lemmas.List.{length-map}
use Rattle.std.proofs.lemmas.Option.{slice_get_within}
use Rattle.grasp_cbor.specs.Item.{data_item_of, items_of}
use Rattle.grasp_wire.specs.ReadParts.{flood_part_in}
use Rattle.grasp_wire.proofs.Runs.{begun, begun_with, more_pushed}
use Rattle.grasp_wire.proofs.reading.flood.flood_parts_from.Goals as goal

pub returns-in_default-2 : goal.returns-in_default-2
returns-in_default-2 c =
    sym (begun flood_part_in (items_of c.args.parts.now) c.args.from (length (items_of c.args.parts.now)) (data_item_of c.in-Some.first.now) None (slice_get_within (items_of c.args.parts.now) c.args.from _ (sym c.in-Some.ensures)) (sym c.in-Some.ensures) (sym c.in_default-2.is ∙ c.in_ok-first.ensures))

pub slice_bounds-item-items-count : goal.slice_bounds-item-items-count
slice_bounds-item-items-count c =
    omega (arith, slice_get_within (items_of c.args.parts.now) c.args.from _ (sym c.in-Some.ensures), ap length c.slice.ensures, length-map c.slice.result.now data_item_of)

pub slice_bounds-item-items-start : goal.slice_bounds-item-items-start
slice_bounds-item-items-start c =
    omega (arith, slice_get_within (items_of c.args.parts.now) c.args.from _ (sym c.in-Some.ensures), ap length c.slice.ensures, length-map c.slice.result.now data_item_of)

pub loop-item-init : goal.loop-item-init
loop-item-init c =
    let long = sym (length-map c.slice.result.now data_item_of) ∙ ap length c.slice.ensures in
    rw long (rw c.in_ok-held.ensures (begun_with flood_part_in data_item_of c.slice.result.now (items_of c.args.parts.now) c.args.from (length (items_of c.args.parts.now)) (data_item_of c.in-Some.first.now) c.in-Some-2.first c.slice.ensures (slice_get_within (items_of c.args.parts.now) c.args.from _ (sym c.in-Some.ensures)) (sym c.in-Some.ensures) (sym c.in-Some-2.is ∙ c.in_ok-first.ensures)))

pub loop-item-preserved : goal.loop-item-preserved
loop-item-preserved c =
    c.loop-item.invariant ∙ more_pushed flood_part_in data_item_of _ c.loop-item.item-index c.item-item.result _ c.loop-item.held _ c.loop-item-test.true c.item-item.is c.if-not-branch.false c.in_ok-push_flood_part.ensures
