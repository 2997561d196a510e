-- The data item of an array and of a map, over the lists that contracts see.
use Rattle.std.proofs.Common.{◌≡◌, map, refl, ap, ◌∙◌}
use Rattle.grasp_cbor.specs.declared.tree.Item.{Row_of-Item, end_of-Item, more_of-Item, items-the_row-Item, items_hidden-the_row-Item-0, Row_of-Pairs-held-2, end_of-Pairs-held-2, more_of-Pairs-held-2, items-the_row-Pairs-held-2, items_hidden-the_row-Pairs-held-2-1}
use Rattle.grasp_cbor.specs.declared.tree.Item.TheBlock.{hidden-the_row-Item-0, hidden-the_row-Pairs-held-2-1}
use Rattle.grasp_cbor.specs.declared.tree.Item.TheVariants as item
use Rattle.grasp_cbor.specs.declared.tree.Items.{Items}
use Rattle.grasp_cbor.specs.declared.tree.Pairs.{Pairs}
use Rattle.grasp_cbor.specs.DataItem.{array, mapping, item_and, pair_and, data_items, data_pairs}
use Rattle.grasp_cbor.specs.Item.{data_item_of, row_items, row_pairs, pair_of, items_of, pairs_of}

row_items_is : {m : _} (row : Row_of-Item m) → row_items row ≡ data_items (map data_item_of (items-the_row-Item m row))
row_items_is end_of-Item = refl
row_items_is (more_of-Item x row) = ap (item_and (data_item_of x)) (row_items_is row)

row_pairs_is : {m : _} (row : Row_of-Pairs-held-2 m) → row_pairs row ≡ data_pairs (map pair_of (items-the_row-Pairs-held-2 m row))
row_pairs_is end_of-Pairs-held-2 = refl
row_pairs_is (more_of-Pairs-held-2 k v row) = ap (pair_and (data_item_of k) (data_item_of v)) (row_pairs_is row)

pub data_item_of-List : (xs : Items) → data_item_of (item.List xs) ≡ array (data_items (items_of xs))
data_item_of-List xs = ap array (row_items_is (hidden-the_row-Item-0 xs.held) ∙ ap (λ ys. data_items (map data_item_of ys)) (items_hidden-the_row-Item-0 xs.held))

pub data_item_of-Map : (xs : Pairs) → data_item_of (item.Map xs) ≡ mapping (data_pairs (pairs_of xs))
data_item_of-Map xs = ap mapping (row_pairs_is (hidden-the_row-Pairs-held-2-1 xs.held) ∙ ap (λ ys. data_pairs (map pair_of ys)) (items_hidden-the_row-Pairs-held-2-1 xs.held))

pub ruleset views = (data_item_of-List, data_item_of-Map)
