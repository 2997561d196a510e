-- The data item that an `Item` stands for.
use Rattle.std.specs.Prelude.{List, map}
use Rattle.grasp_cbor.specs.declared.scalars.FloatBits.{FloatBits}
use Rattle.grasp_cbor.specs.declared.scalars.FloatBits.TheVariants.{Half, Single, Double}
use Rattle.grasp_cbor.specs.declared.tree.Item.{Item, Uint, Neg, Bytes, Text, List', Map', Tag', Simple, Float, Row_of-Item, end_of-Item, more_of-Item, Row_of-Pairs-held-2, end_of-Pairs-held-2, more_of-Pairs-held-2}
use Rattle.grasp_cbor.specs.declared.tree.Items.{Items}
use Rattle.grasp_cbor.specs.declared.tree.Pairs.{Pairs}
use Rattle.grasp_cbor.specs.DataItem as spec
use Rattle.grasp_cbor.specs.DataItem.{DataItem, DataItems, DataPairs}

-- the data item of a float
abbrev pub float_of : FloatBits → DataItem
float_of (Half n) = spec.half_float n
float_of (Single n) = spec.single_float n
float_of (Double n) = spec.double_float n

abbrev mutual
  -- the data item of an item
  pub data_item_of : Item → DataItem
  data_item_of (Uint n) = spec.unsigned n
  data_item_of (Neg n) = spec.negative n
  data_item_of (Bytes bs) = spec.byte_string bs
  data_item_of (Text bs) = spec.text_string bs
  data_item_of (List' shape row) = spec.array (row_items row)
  data_item_of (Map' shape row) = spec.mapping (row_pairs row)
  data_item_of (Tag' n box x) = spec.tagged n (data_item_of x)
  data_item_of (Simple n) = spec.simple_value n
  data_item_of (Float f) = float_of f

  pub row_items : {m : _} → Row_of-Item m → DataItems
  row_items end_of-Item = spec.no_items
  row_items (more_of-Item x row) = spec.item_and (data_item_of x) (row_items row)

  pub row_pairs : {m : _} → Row_of-Pairs-held-2 m → DataPairs
  row_pairs end_of-Pairs-held-2 = spec.no_pairs
  row_pairs (more_of-Pairs-held-2 k v row) = spec.pair_and (data_item_of k) (data_item_of v) (row_pairs row)

-- the data items of a pair
abbrev pub pair_of : Item × Item → DataItem × DataItem
pair_of p = (data_item_of p.0, data_item_of p.1)

-- the data items of an array's items
abbrev pub items_of : Items → List DataItem
items_of xs = map data_item_of xs.held.items

-- the data items of a map's pairs
abbrev pub pairs_of : Pairs → List (DataItem × DataItem)
pairs_of xs = map pair_of xs.held.items
