-- The shortest encoding of a data item (RFC 8949, section 4.2.1): each head has the least size. Pairs keep their order, and
-- keys may repeat.
use Rattle.std.specs.Prelude.{ℕ, ◌∷◌, List, [], ◌++◌, length}
use Rattle.std.specs.Int.{w16, w32, w64, to_be_bytes}
use Rattle.grasp_cbor.specs.DataItem.{DataItem, DataItems, DataPairs, unsigned, negative, byte_string, text_string, array, mapping, tagged, simple_value, half_float, single_float, double_float, no_items, item_and, no_pairs, pair_and, item_count, pair_count}
use Rattle.grasp_cbor.specs.Head.{shortest_head, simple_head}

abbrev mutual
  -- the shortest encoding of an item; a float keeps its width
  pub shortest : DataItem → List ℕ
  shortest (unsigned n) = shortest_head 0 n
  shortest (negative n) = shortest_head 1 n
  shortest (byte_string bs) = shortest_head 2 (length bs) ++ bs
  shortest (text_string bs) = shortest_head 3 (length bs) ++ bs
  shortest (array ts) = shortest_head 4 (item_count ts) ++ shortest_items ts
  shortest (mapping es) = shortest_head 5 (pair_count es) ++ shortest_pairs es
  shortest (tagged n t) = shortest_head 6 n ++ shortest t
  shortest (simple_value n) = simple_head n
  shortest (half_float n) = 249 ∷ to_be_bytes w16 n
  shortest (single_float n) = 250 ∷ to_be_bytes w32 n
  shortest (double_float n) = 251 ∷ to_be_bytes w64 n

  -- those of the items, one after another
  pub shortest_items : DataItems → List ℕ
  shortest_items no_items = []
  shortest_items (item_and t ts) = shortest t ++ shortest_items ts

  -- those of the keys and values, one after another
  pub shortest_pairs : DataPairs → List ℕ
  shortest_pairs no_pairs = []
  shortest_pairs (pair_and k v es) = (shortest k ++ shortest v) ++ shortest_pairs es
