-- The greatest depth of the parts so far, one part later.
use Rattle.std.proofs.Common.{◌≡◌, ℕ, ◌+◌, ◌<◌, max, List, [], ◌∷◌, ◌++◌, length, get_or, take, map, sym, ap, ◌∙◌, arith}
use Rattle.std.proofs.lemmas.List.{take_more, map-append}
use Rattle.grasp_cbor.specs.declared.tree.Item.{Item}
use Rattle.grasp_cbor.specs.DataItem.{DataItem, data_items, data_pairs, depth_of, items_depth, pairs_depth}
use Rattle.grasp_cbor.specs.Item.{data_item_of, pair_of}

items_depth-push : (ts : List DataItem) (t : DataItem) → items_depth (data_items (ts ++ t ∷ [])) ≡ max (items_depth (data_items ts)) (depth_of t)
items_depth-push [] t = omega arith
items_depth-push (u ∷ ts) t = omega (arith, items_depth-push ts t)

pairs_depth-push : (es : List (DataItem × DataItem)) (k v : DataItem) → pairs_depth (data_pairs (es ++ (k, v) ∷ [])) ≡ max (pairs_depth (data_pairs es)) (max (depth_of k) (depth_of v))
pairs_depth-push [] k v = omega arith
pairs_depth-push (e ∷ es) k v = omega (arith, pairs_depth-push es k v)

pub items_depth_more : (xs : List Item) (i : ℕ) (x : Item) → i < length xs → x ≡ get_or xs i x → items_depth (data_items (map data_item_of (take (i + 1) xs))) ≡ max (items_depth (data_items (map data_item_of (take i xs)))) (depth_of (data_item_of x))
items_depth_more xs i x h r =
    ap (λ ys. items_depth (data_items (map data_item_of ys))) (take_more xs i x h ∙ ap (λ y. take i xs ++ y ∷ []) (sym r))
    ∙ ap (λ ys. items_depth (data_items ys)) (map-append data_item_of (take i xs) (x ∷ []))
    ∙ items_depth-push (map data_item_of (take i xs)) (data_item_of x)

pub pairs_depth_more : (xs : List (Item × Item)) (i : ℕ) (x : Item × Item) → i < length xs → x ≡ get_or xs i x → pairs_depth (data_pairs (map pair_of (take (i + 1) xs))) ≡ max (pairs_depth (data_pairs (map pair_of (take i xs)))) (max (depth_of (data_item_of x.0)) (depth_of (data_item_of x.1)))
pairs_depth_more xs i x h r =
    ap (λ ys. pairs_depth (data_pairs (map pair_of ys))) (take_more xs i x h ∙ ap (λ y. take i xs ++ y ∷ []) (sym r))
    ∙ ap (λ ys. pairs_depth (data_pairs ys)) (map-append pair_of (take i xs) (x ∷ []))
    ∙ pairs_depth-push (map pair_of (take i xs)) (data_item_of x.0) (data_item_of x.1)
