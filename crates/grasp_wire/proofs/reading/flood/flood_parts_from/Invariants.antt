use Rattle.std.proofs.Common.{◌≡◌, ◌++◌, Some, length, map, drop}
use Rattle.std.specs.List.{slice_range}
use Rattle.grasp_cbor.specs.Item.{data_item_of, items_of}
use Rattle.grasp_wire.specs.Reading.{◌>>=◌, each, one_or_more}
use Rattle.grasp_wire.specs.ReadParts.{flood_part_in}
use Rattle.grasp_wire.proofs.reading.flood.flood_parts_from.Given as goal

abbrev pub invariant-loop-item : goal.invariant-loop-item
invariant-loop-item l = one_or_more flood_part_in (slice_range (items_of l.parts) l.from (length (items_of l.parts)))
    ≡ (each flood_part_in (map data_item_of (drop l.item-index l.item-items)) >>= λ xs. Some (l.held ++ xs))
