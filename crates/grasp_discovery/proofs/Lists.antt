-- Lists through a function, and parts of lists.
use Rattle.std.proofs.Common.{zero, suc, ◌≡◌, ℕ, ◌+◌, ◌<◌, Bool, true, false, cond, not, ◌||◌, nat_lt, List, [], ◌∷◌, ◌++◌, length, filter, take, slice_get, get_or, None, Some, refl, sym, ap, ◌∙◌, arith}
use Rattle.std.specs.Prelude.{position}
use Rattle.std.specs.List.{list_any, position_or_len}
use Rattle.std.proofs.lemmas.List.Quantifiers.{position-Some}
use Rattle.grasp_cbor.proofs.Facts.Lists.{filter_append}
use Rattle.grasp_cbor.proofs.Places.{take_got}

append_nil : {X : Type 0} (zs : List X) → zs ++ [] ≡ zs
append_nil [] = refl
append_nil (z ∷ zs) = ap (λ rest. z ∷ rest) (append_nil zs)

module _ {X : Type 0} (p : X → Bool) (xs : List X) (i : ℕ) (x : X) (at : slice_get xs i ≡ Some x) where
  -- one more that passes the test
  pub passes_more : p x ≡ true → filter p (take (i + 1) xs) ≡ filter p (take i xs) ++ x ∷ []
  passes_more t = ap (filter p) (take_got xs i x at) ∙ filter_append p (take i xs) (x ∷ []) ∙ ap (λ b. filter p (take i xs) ++ cond b (x ∷ []) []) t

  -- one more that doesn't
  pub fails_more : p x ≡ false → filter p (take (i + 1) xs) ≡ filter p (take i xs)
  fails_more t = ap (filter p) (take_got xs i x at) ∙ filter_append p (take i xs) (x ∷ []) ∙ ap (λ b. filter p (take i xs) ++ cond b (x ∷ []) []) t ∙ append_nil (filter p (take i xs))

-- Places

pub record Found {X : Type 0} (p : X → Bool) (xs : List X) (i : ℕ) : Type 0 where
  pub within : i < length xs
  pub passes : (d : X) → p (get_or xs i d) ≡ true
  pub first : (d : X) (k : ℕ) → k < i → p (get_or xs k d) ≡ false

-- what is true at the place that was found
pub found : {X : Type 0} (p : X → Bool) (xs : List X) (i : ℕ) (d : X) → position p xs ≡ Some i → Found p xs i
found p xs i d at = record {
  within = (position-Some p xs i d at).0;
  passes = λ e. (position-Some p xs i e at).1;
  first = λ e. (position-Some p xs i e at).2;
}

any_at : {X : Type 0} (p : X → Bool) (xs : List X) (i : ℕ) (d : X) → i < length xs → p (get_or xs i d) ≡ true → list_any p xs ≡ true
any_at p [] i d h t = absurd (omega arith)
any_at p (x ∷ xs) zero d h t = ap (λ b. b || list_any p xs) t
any_at p (x ∷ xs) (suc i) d h t = let rest = any_at p xs i d (omega arith) t in
    elim (p x) as (λ b. (b || list_any p xs) ≡ true) [ true ↦ refl | false ↦ rest ]

-- where a place was found, one passes
pub any_found : {X : Type 0} (p : X → Bool) (xs : List X) (i : ℕ) (d : X) → position p xs ≡ Some i → list_any p xs ≡ true
any_found p xs i d at = let it = found p xs i d at in any_at p xs i d it.within (it.passes d)

place_below : {X : Type 0} (p : X → Bool) (xs : List X) → nat_lt (position_or_len p xs) (length xs) ≡ list_any p xs
place_below p [] = refl
place_below p (x ∷ xs) = let rest = place_below p xs in by (p x) rest
  where
    by : (b : Bool) → nat_lt (position_or_len p xs) (length xs) ≡ list_any p xs
        → nat_lt (cond (not b) (1 + position_or_len p xs) 0) (length (x ∷ xs)) ≡ (b || list_any p xs)
    by true rest = grind arith
    by false rest = grind arith

-- where no place was found, none passes
pub any_missed : {X : Type 0} (p : X → Bool) (xs : List X) → position p xs ≡ None → list_any p xs ≡ false
any_missed p xs none = sym (place_below p xs) ∙ by (nat_lt (position_or_len p xs) (length xs)) none
  where
    by : (b : Bool) → cond b (Some (position_or_len p xs)) None ≡ None → b ≡ false
    by true e = cc
    by false e = refl
