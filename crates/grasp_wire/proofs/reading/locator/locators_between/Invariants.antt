use Rattle.std.proofs.Common.{◌≡◌, ◌++◌, Some, map, drop}
use Rattle.std.specs.List.{slice_range}
use Rattle.grasp_cbor.specs.Item.{data_item_of, items_of}
use Rattle.grasp_wire.specs.Reading.{◌>>=◌, each, one_or_more}
use Rattle.grasp_wire.specs.ReadParts.{locator_in}
use Rattle.grasp_wire.proofs.reading.locator.locators_between.Given as goal

abbrev pub invariant-loop-item : goal.invariant-loop-item
invariant-loop-item l = one_or_more locator_in (slice_range (items_of l.parts) l.from l.to)
    ≡ (each locator_in (map data_item_of (drop l.item-index l.item-items)) >>= λ xs. Some (l.held ++ xs))
