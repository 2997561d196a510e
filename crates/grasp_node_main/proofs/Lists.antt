-- Places of a list.
use Rattle.std.proofs.Common.{◌≡◌, ◌≢◌, refl, sym, ap, ◌∙◌, arith, ℕ, zero, suc, ◌<◌, List, [], ◌∷◌, length, take, get_or, slice_get, slice_set, slice_index_or, Some}
use Rattle.std.proofs.lemmas.Option.{slice_get-get_or, slice_get_within}

module _ {A : Type 0} where
  -- what stands at a place that was set
  pub set_here : (xs : List A) (i : ℕ) (x v : A) → slice_get xs i ≡ Some x → slice_get (slice_set xs i v) i ≡ Some v
  set_here [] i x v e = absurd (cc)
  set_here (y ∷ ys) zero x v e = refl
  set_here (y ∷ ys) (suc i) x v e = set_here ys i x v e

  -- what stands at another place than the one that was set stays the same
  pub set_elsewhere : (xs : List A) (i j : ℕ) (v : A) → j ≢ i → slice_get (slice_set xs i v) j ≡ slice_get xs j
  set_elsewhere (y ∷ ys) zero zero v apart = absurd (apart refl)
  set_elsewhere (y ∷ ys) (suc i) (suc j) v apart = set_elsewhere ys i j v (λ e. apart (ap suc e))
  set_elsewhere _ _ _ v apart = refl

  -- what was read from a place
  pub read_at : (xs : List A) (i : ℕ) (x d : A) → slice_get xs i ≡ Some x → slice_index_or xs i d ≡ x
  read_at xs i x d at =
      let e : Some (get_or xs i d) ≡ Some x = sym (slice_get-get_or xs i d (slice_get_within xs i x at)) ∙ at in cc

  -- all of a list is taken
  pub take_whole : (xs : List A) → take (length xs) xs ≡ xs
  take_whole [] = refl
  take_whole (x ∷ xs) = ap (λ l. x ∷ l) (take_whole xs)

-- what stands at a place
pub record At {A : Type 0} (xs : List A) (i : ℕ) : Type 0 where
  pub item : A
  pub at : slice_get xs i ≡ Some item

-- something stands at each
pub stands_at : {A : Type 0} (xs : List A) (i : ℕ) → i < length xs → At xs i
stands_at [] i lt = absurd (omega (arith, lt))
stands_at (x ∷ xs) zero lt = record { item = x; at = refl }
stands_at (x ∷ xs) (suc i) lt = let r = stands_at xs i (omega (arith, lt)) in record { item = r.item; at = r.at }
