-- The part of a list at a place.
use Rattle.std.proofs.Common.{◌≡◌, ℕ, zero, suc, ◌+◌, ◌<◌, ◌≤◌, List, [], ◌∷◌, ◌++◌, length, map, take, get_or, Some, None, slice_get, refl, sym, ap, ◌∙◌, arith}
use Rattle.std.proofs.lemmas.List.{take_more}
use Rattle.std.specs.Prelude.{option_map}
use Rattle.std.proofs.lemmas.Option.{slice_get_within, slice_get_read, slice_get-map, get_or_from_slice_get}
use Rattle.grasp_cbor.specs.DataItem.{DataItem, data_items, data_pairs, depth_of, items_depth, pairs_depth}

-- one more part
pub take_got : {X : Type 0} (xs : List X) (i : ℕ) (x : X) → slice_get xs i ≡ Some x → take (i + 1) xs ≡ take i xs ++ x ∷ []
take_got xs i x e =
    take_more xs i x (slice_get_within xs i x e) ∙ ap (λ y. take i xs ++ y ∷ []) (get_or_from_slice_get xs i x x e)

-- the part that a loop over the values is at
pub turn_got : {X Y : Type 0} (v : X → Y) (xs : List X) (ys : List Y) (i : ℕ) (x : X) → map v xs ≡ ys → i < length xs → x ≡ get_or xs i x → slice_get ys i ≡ Some (v x)
turn_got v xs ys i x e lt is = ap (λ zs. slice_get zs i) (sym e) ∙ slice_get-map v xs i ∙ ap (option_map v) (slice_get_read xs (length xs) i x refl lt is)

-- a part is there
pub got_below : {X : Type 0} (xs : List X) (i : ℕ) → i < length xs → slice_get xs i ≡ None → ⊥
got_below [] i h e = omega arith
got_below (x ∷ xs) zero h e = cc
got_below (x ∷ xs) (suc i) h e = got_below xs i (omega arith) e

-- a part is as deep as the deepest at most
pub items_depth_got : (ts : List DataItem) (i : ℕ) (t : DataItem) → slice_get ts i ≡ Some t → depth_of t ≤ items_depth (data_items ts)
items_depth_got [] i t e = absurd (cc)
items_depth_got (u ∷ ts) zero t e = let q : u ≡ t = cc in let d = ap depth_of q in omega arith
items_depth_got (u ∷ ts) (suc i) t e = omega (arith, items_depth_got ts i t e)

pub pairs_depth_got : (es : List (DataItem × DataItem)) (i : ℕ) (e : DataItem × DataItem) → slice_get es i ≡ Some e → (depth_of e.0 ≤ pairs_depth (data_pairs es)) × (depth_of e.1 ≤ pairs_depth (data_pairs es))
pairs_depth_got [] i e p = absurd (cc)
pairs_depth_got (u ∷ es) zero e p = let q : u ≡ e = cc in let k = ap (λ (x : DataItem × DataItem). depth_of x.0) q in let v = ap (λ (x : DataItem × DataItem). depth_of x.1) q in (omega arith, omega arith)
pairs_depth_got (u ∷ es) (suc i) e p = let h = pairs_depth_got es i e p in (omega arith, omega arith)
