-- The lengths of shortest encodings.
use Rattle.std.proofs.Common.{◌≡◌, ℕ, zero, suc, ◌+◌, ◌≤◌, List, [], ◌∷◌, ◌++◌, length, take, Option, Some, None, IfNone, slice_get, refl, ap, ◌∙◌, length-append, arith}
use Rattle.grasp_cbor.specs.DataItem.{DataItem, data_items, data_pairs}
use Rattle.grasp_cbor.specs.Head.{HeadSize, direct, sized_head, shortest_size, shortest_head}
use Rattle.grasp_cbor.specs.Length.{head_length}
use Rattle.grasp_cbor.specs.Shortest.{shortest, shortest_items, shortest_pairs}
use Rattle.grasp_cbor.proofs.Views.{views}
use Rattle.grasp_cbor.proofs.Places.{take_got, got_below, items_depth_got, pairs_depth_got}
use Rattle.grasp_cbor.proofs.Counts.{shortest_items-push, shortest_pairs-push, item_count-data_items, pair_count-data_pairs}

same_length : (size : HeadSize) (major other n : ℕ) → length (sized_head size major n) ≡ length (sized_head size other n)
same_length direct major other n = refl
same_length _ major other n = refl

pub length-shortest_head : (major n : ℕ) → length (shortest_head major n) ≡ head_length n
unfolding shortest_head head_length
length-shortest_head major n = same_length (shortest_size n) major 0 n

-- one more item
pub items_length : (ts : List DataItem) (i : ℕ) (t : DataItem) → slice_get ts i ≡ Some t
    → length (shortest_items (data_items (take (i + 1) ts))) ≡ length (shortest_items (data_items (take i ts))) + length (shortest t)
items_length ts i t got =
    ap (λ us. length (shortest_items (data_items us))) (take_got ts i t got)
    ∙ ap length (shortest_items-push (take i ts) t)
    ∙ length-append (shortest_items (data_items (take i ts))) (shortest t)

-- one more pair
pub pairs_length : (es : List (DataItem × DataItem)) (i : ℕ) (e : DataItem × DataItem) → slice_get es i ≡ Some e
    → length (shortest_pairs (data_pairs (take (i + 1) es))) ≡ length (shortest_pairs (data_pairs (take i es))) + (length (shortest e.0) + length (shortest e.1))
pairs_length es i e got =
    ap (λ us. length (shortest_pairs (data_pairs us))) (take_got es i e got)
    ∙ ap length (shortest_pairs-push (take i es) e)
    ∙ length-append (shortest_pairs (data_pairs (take i es))) (shortest e.0 ++ shortest e.1)
    ∙ ap (λ n. length (shortest_pairs (data_pairs (take i es))) + n) (length-append (shortest e.0) (shortest e.1))

pub ruleset lengths = (views, length-shortest_head, length-append, shortest_items-push, shortest_pairs-push, item_count-data_items, pair_count-data_pairs, take_got, got_below, items_depth_got, pairs_depth_got)

-- the items up to one are no longer than all
pub items_at_least : (ts : List DataItem) (i : ℕ) (t : DataItem) → slice_get ts i ≡ Some t
    → length (shortest_items (data_items (take i ts))) + length (shortest t) ≤ length (shortest_items (data_items ts))
items_at_least [] i t got = absurd (cc)
items_at_least (u ∷ ts) zero t got = let q : u ≡ t = cc in let d = ap (λ x. length (shortest x)) q in omega (arith, length-append (shortest u) (shortest_items (data_items ts)))
items_at_least (u ∷ ts) (suc i) t got =
    omega (arith, items_at_least ts i t got, length-append (shortest u) (shortest_items (data_items ts)), length-append (shortest u) (shortest_items (data_items (take i ts))))

-- the pairs up to one are no longer than all
pub pairs_at_least : (es : List (DataItem × DataItem)) (i : ℕ) (e : DataItem × DataItem) → slice_get es i ≡ Some e
    → length (shortest_pairs (data_pairs (take i es))) + (length (shortest e.0) + length (shortest e.1)) ≤ length (shortest_pairs (data_pairs es))
pairs_at_least [] i e got = absurd (cc)
pairs_at_least (u ∷ es) zero e got =
    let q : u ≡ e = cc in
    let k = ap (λ (x : DataItem × DataItem). length (shortest x.0)) q in
    let v = ap (λ (x : DataItem × DataItem). length (shortest x.1)) q in
    omega (arith, length-append (shortest u.0 ++ shortest u.1) (shortest_pairs (data_pairs es)), length-append (shortest u.0) (shortest u.1))
pairs_at_least (u ∷ es) (suc i) e got =
    omega (
      arith,
      pairs_at_least es i e got,
      length-append (shortest u.0 ++ shortest u.1) (shortest_pairs (data_pairs es)),
      length-append (shortest u.0 ++ shortest u.1) (shortest_pairs (data_pairs (take i es))),
    )

pub if_none : {A : Type 0} (o : Option A) (P : Type 0) → P → IfNone o P
if_none None P p = p
if_none (Some x) P p = tt
