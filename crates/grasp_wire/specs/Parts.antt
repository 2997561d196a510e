-- Inside: items that stand one after another.
use Rattle.std.specs.Prelude.{ℕ, List}
use Rattle.grasp_cbor.specs.DataItem.{DataItem, data_items}
use Rattle.grasp_cbor.specs.Shortest.{shortest_items}

-- the shortest encodings of the items, one after another
abbrev pub shortest_parts : List DataItem → List ℕ
shortest_parts items = shortest_items (data_items items)
