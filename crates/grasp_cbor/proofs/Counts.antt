-- Lists of data items, so far.
use Rattle.std.proofs.Common.{◌≡◌, ◌+◌, List, [], ◌∷◌, ◌++◌, length, refl, sym, ap, ◌∙◌, append_assoc, append-nil, arith}
use Rattle.grasp_cbor.proofs.Views.{views}
use Rattle.grasp_cbor.proofs.Places.{take_got, got_below, items_depth_got, pairs_depth_got}
use Rattle.grasp_cbor.specs.DataItem.{DataItem, data_items, data_pairs, item_count, pair_count}
use Rattle.grasp_cbor.specs.Encodable.{IsEncodable, AreEncodable, ArePairsEncodable}
use Rattle.grasp_cbor.specs.Shortest.{shortest, shortest_items, shortest_pairs}

pub item_count-data_items : (ts : List DataItem) → item_count (data_items ts) ≡ length ts
item_count-data_items [] = refl
item_count-data_items (t ∷ ts) = omega (arith, item_count-data_items ts)

pub pair_count-data_pairs : (es : List (DataItem × DataItem)) → pair_count (data_pairs es) ≡ length es
pair_count-data_pairs [] = refl
pair_count-data_pairs (e ∷ es) = omega (arith, pair_count-data_pairs es)

pub shortest_items-push : (ts : List DataItem) (t : DataItem) → shortest_items (data_items (ts ++ t ∷ [])) ≡ shortest_items (data_items ts) ++ shortest t
shortest_items-push [] t = append-nil (shortest t)
shortest_items-push (u ∷ ts) t = ap (λ s. shortest u ++ s) (shortest_items-push ts t) ∙ sym (append_assoc (shortest u) (shortest_items (data_items ts)) (shortest t))

pub shortest_pairs-push : (es : List (DataItem × DataItem)) (e : DataItem × DataItem) → shortest_pairs (data_pairs (es ++ e ∷ [])) ≡ shortest_pairs (data_pairs es) ++ (shortest e.0 ++ shortest e.1)
shortest_pairs-push [] e = append-nil (shortest e.0 ++ shortest e.1)
shortest_pairs-push (u ∷ es) e = ap (λ s. (shortest u.0 ++ shortest u.1) ++ s) (shortest_pairs-push es e) ∙ sym (append_assoc (shortest u.0 ++ shortest u.1) (shortest_pairs (data_pairs es)) (shortest e.0 ++ shortest e.1))

pub AreEncodable-push : (ts : List DataItem) (t : DataItem) → AreEncodable (data_items ts) → IsEncodable t → AreEncodable (data_items (ts ++ t ∷ []))
AreEncodable-push [] t h f = (f, tt)
AreEncodable-push (u ∷ ts) t h f = (h.0, AreEncodable-push ts t h.1 f)

pub ArePairsEncodable-push : (es : List (DataItem × DataItem)) (e : DataItem × DataItem) → ArePairsEncodable (data_pairs es) → IsEncodable e.0 → IsEncodable e.1 → ArePairsEncodable (data_pairs (es ++ e ∷ []))
ArePairsEncodable-push [] e h k v = (k, v, tt)
ArePairsEncodable-push (u ∷ es) e h k v = (h.0, h.1, ArePairsEncodable-push es e h.2 k v)

pub ruleset steps = (views, item_count-data_items, pair_count-data_pairs, shortest_items-push, shortest_pairs-push, AreEncodable-push, ArePairsEncodable-push, take_got, got_below, items_depth_got, pairs_depth_got, append_assoc)
