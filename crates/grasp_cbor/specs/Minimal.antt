-- What stands at the front of bytes in its shortest encoding (RFC 8949, section 4.2.1), and then the rest.
use Rattle.std.specs.Prelude.{◌≡◌, ◌<◌, ◌≤◌, ◌^◌, ℕ, List, ◌++◌}
use Rattle.grasp_cbor.specs.DataItem.{DataItem, DataItems, item_count, depth_of, items_depth}
use Rattle.grasp_cbor.specs.Encodable.{IsEncodable, AreEncodable}
use Rattle.grasp_cbor.specs.Head.{shortest_head}
use Rattle.grasp_cbor.specs.Shortest.{shortest, shortest_items}

-- the bytes are the shortest head of this major type and argument, and then the rest
pub record LeadsHead (major n : ℕ) (bytes rest : List ℕ) : Type 0 where
  pub fits : n < 2 ^ 64
  pub parts : bytes ≡ shortest_head major n ++ rest

-- the bytes are the shortest encoding of an item that is so deep at most, and then the rest
pub record LeadsShortest (depth : ℕ) (bytes rest : List ℕ) : Type 0 where
  pub item : DataItem
  pub shallow : depth_of item ≤ depth
  pub encodable : IsEncodable item
  pub parts : bytes ≡ shortest item ++ rest

-- the bytes are the shortest encodings of so many items, each so deep at most, and then the rest
pub record LeadShortest (count depth : ℕ) (bytes rest : List ℕ) : Type 0 where
  pub items : DataItems
  pub counted : item_count items ≡ count
  pub shallow : items_depth items ≤ depth
  pub encodable : AreEncodable items
  pub parts : bytes ≡ shortest_items items ++ rest
