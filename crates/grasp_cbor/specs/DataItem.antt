-- Data items of CBOR as plain data (RFC 8949, sections 2 and 3.1).
use Rattle.std.specs.Prelude.{ℕ, ◌+◌, max, List, [], ◌∷◌}

mutual
  -- a data item: a tree of nine kinds, where a float is a width and a bit pattern (RFC 8949, section 3)
  pub data DataItem : Type 0 where
    unsigned : ℕ → DataItem
    negative : ℕ → DataItem
    byte_string : List ℕ → DataItem
    text_string : List ℕ → DataItem
    array : DataItems → DataItem
    mapping : DataPairs → DataItem
    tagged : ℕ → DataItem → DataItem
    simple_value : ℕ → DataItem
    half_float : ℕ → DataItem
    single_float : ℕ → DataItem
    double_float : ℕ → DataItem

  -- the items of an array
  pub data DataItems : Type 0 where
    no_items : DataItems
    item_and : DataItem → DataItems → DataItems

  -- the pairs of a map, each a key and a value
  pub data DataPairs : Type 0 where
    no_pairs : DataPairs
    pair_and : DataItem → DataItem → DataPairs → DataPairs

-- the items of a list
abbrev pub data_items : List DataItem → DataItems
data_items [] = no_items
data_items (t ∷ ts) = item_and t (data_items ts)

-- the pairs of a list
abbrev pub data_pairs : List (DataItem × DataItem) → DataPairs
data_pairs [] = no_pairs
data_pairs (e ∷ es) = pair_and e.0 e.1 (data_pairs es)

-- the array of these items
abbrev pub array_of : List DataItem → DataItem
array_of ts = array (data_items ts)

-- the map of these pairs
abbrev pub mapping_of : List (DataItem × DataItem) → DataItem
mapping_of es = mapping (data_pairs es)

abbrev mutual
  -- how deep an item nests: 0 for a number, string, simple value or float; otherwise 1 plus the greatest depth of its parts,
  -- which is 1 for an empty array or map
  pub depth_of : DataItem → ℕ
  depth_of (unsigned n) = 0
  depth_of (negative n) = 0
  depth_of (byte_string bs) = 0
  depth_of (text_string bs) = 0
  depth_of (array ts) = items_depth ts + 1
  depth_of (mapping es) = pairs_depth es + 1
  depth_of (tagged n t) = depth_of t + 1
  depth_of (simple_value n) = 0
  depth_of (half_float n) = 0
  depth_of (single_float n) = 0
  depth_of (double_float n) = 0

  -- the greatest depth of an item, or 0 where there is none
  pub items_depth : DataItems → ℕ
  items_depth no_items = 0
  items_depth (item_and t ts) = max (depth_of t) (items_depth ts)

  -- the greatest depth of a key or a value, or 0 where there is none
  pub pairs_depth : DataPairs → ℕ
  pairs_depth no_pairs = 0
  pairs_depth (pair_and k v es) = max (max (depth_of k) (depth_of v)) (pairs_depth es)

-- how many items
abbrev pub item_count : DataItems → ℕ
item_count no_items = 0
item_count (item_and t ts) = item_count ts + 1

-- how many pairs
abbrev pub pair_count : DataPairs → ℕ
pair_count no_pairs = 0
pair_count (pair_and k v es) = pair_count es + 1

-- the list of the items
abbrev pub items_in : DataItems → List DataItem
items_in no_items = []
items_in (item_and t ts) = t ∷ items_in ts

-- the list of the pairs
abbrev pub pairs_in : DataPairs → List (DataItem × DataItem)
pairs_in no_pairs = []
pairs_in (pair_and k v es) = (k, v) ∷ pairs_in es
