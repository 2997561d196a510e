-- Lists whose parts are numbered from 1, and one more part at the end.
use Rattle.std.proofs.Common.{◌≡◌, ◌≢◌, ◌⊎◌, inl, inr, refl, ◌∙◌, subst, arith, ℕ, zero, suc, ◌+◌, ◌-◌, ◌≤◌, ◌==◌, Bool, true, false, cond, List, [], ◌∷◌, ◌++◌, length, slice_get, Option, Some, None}
use Rattle.std.proofs.lemmas.Option.{none-some, same_Some}
use Rattle.grasp_cbor.proofs.Facts.Lists.{get_end}
use Rattle.grasp_laws_network.proofs.GoodPlans.{not_zero}
use Rattle.grasp_laws_network.proofs.Here.{numbered_within}
use Rattle.grasp_laws_network.proofs.Links.{less_and_more}
use Rattle.grasp_model_network.specs.Plans.{IsNode}
use Rattle.grasp_model_network.specs.Setting.{numbered}

-- ---- places and numbers

-- what has a number is at the place before it
pub numbered_get : {A : Type 0} (xs : List A) (n : ℕ) (x : A) → numbered xs n ≡ Some x → slice_get xs (n - 1) ≡ Some x
numbered_get xs n x e = by_zero (n == 0) refl where
  by_zero : (b : Bool) → (n == 0) ≡ b → slice_get xs (n - 1) ≡ Some x
  by_zero true is = absurd (none-some x (subst (λ z. cond z None (slice_get xs (n - 1)) ≡ Some x) is e))
  by_zero false is = subst (λ z. cond z None (slice_get xs (n - 1)) ≡ Some x) is e

pub get_numbered : {A : Type 0} (xs : List A) (n : ℕ) (o : Option A) → 1 ≤ n → slice_get xs (n - 1) ≡ o → numbered xs n ≡ o
get_numbered xs n o least e = rw (not_zero n least) e

-- ---- one more part

-- what stands in the longer list stood in the list, or is the last
get_appended : {A : Type 0} (xs : List A) (x : A) (i : ℕ) (y : A) → slice_get (xs ++ x ∷ []) i ≡ Some y → (slice_get xs i ≡ Some y) ⊎ ((i ≡ length xs) × (x ≡ y))
get_appended [] x zero y e = inr (refl, same_Some x y e)
get_appended [] x (suc i) y e = absurd (none-some y e)
get_appended (z ∷ zs) x zero y e = inl e
get_appended (z ∷ zs) x (suc i) y e = behind (get_appended zs x i y e) where
  behind : ((slice_get zs i ≡ Some y) ⊎ ((i ≡ length zs) × (x ≡ y))) → (slice_get (z ∷ zs) (suc i) ≡ Some y) ⊎ ((suc i ≡ length (z ∷ zs)) × (x ≡ y))
  behind (inl found) = inl found
  behind (inr last) = inr ((let at : i ≡ length zs = last.0 in omega arith), last.1)

pub appended : {A : Type 0} (xs : List A) (x : A) (n : ℕ) (y : A) → numbered (xs ++ x ∷ []) n ≡ Some y → (numbered xs n ≡ Some y) ⊎ ((n ≡ length xs + 1) × (x ≡ y))
appended xs x n y e = by_place (get_appended xs x (n - 1) y (numbered_get (xs ++ x ∷ []) n y e)) where
  least : 1 ≤ n
  least = (numbered_within (xs ++ x ∷ []) n y e).least

  by_place : ((slice_get xs (n - 1) ≡ Some y) ⊎ ((n - 1 ≡ length xs) × (x ≡ y))) → (numbered xs n ≡ Some y) ⊎ ((n ≡ length xs + 1) × (x ≡ y))
  by_place (inl found) = inl (get_numbered xs n (Some y) least found)
  by_place (inr last) = inr ((let at : n - 1 ≡ length xs = last.0 in let h : 1 ≤ n = least in omega arith), last.1)

-- the last has the next number
pub numbered_last : {A : Type 0} (xs : List A) (x : A) → numbered (xs ++ x ∷ []) (length xs + 1) ≡ Some x
numbered_last xs x = get_numbered (xs ++ x ∷ []) (length xs + 1) (Some x) (omega arith) at where
  place : length xs ≡ (length xs + 1) - 1
  place = omega arith

  at : slice_get (xs ++ x ∷ []) ((length xs + 1) - 1) ≡ Some x
  at = subst (λ i. slice_get (xs ++ x ∷ []) i ≡ Some x) place (get_end xs x)

get_still : {A : Type 0} (xs : List A) (x : A) (i : ℕ) → i ≢ length xs → slice_get (xs ++ x ∷ []) i ≡ slice_get xs i
get_still [] x zero apart = absurd (apart refl)
get_still [] x (suc i) apart = refl
get_still (z ∷ zs) x zero apart = refl
get_still (z ∷ zs) x (suc i) apart = get_still zs x i (λ e. apart (omega (arith, e)))

-- at the other numbers all is as it was
pub numbered_still : {A : Type 0} (xs : List A) (x : A) (n : ℕ) → n ≢ length xs + 1 → numbered (xs ++ x ∷ []) n ≡ numbered xs n
numbered_still xs x n apart = by_zero (n == 0) refl where
  by_zero : (b : Bool) → (n == 0) ≡ b → numbered (xs ++ x ∷ []) n ≡ numbered xs n
  by_zero true is = rw is refl
  by_zero false is = rw is (get_still xs x (n - 1) (λ e. apart (let a : (n - 1) + 1 ≡ n = less_and_more n is in let b : n - 1 ≡ length xs = e in omega arith)))

-- the next number is none of the list's
pub not_next : {A : Type 0} (xs : List A) (n : ℕ) (y : A) → numbered xs n ≡ Some y → n ≢ length xs + 1
not_next xs n y e is = let within : IsNode (length xs) n = numbered_within xs n y e in let most : n ≤ length xs = within.most in omega (arith, is)

-- and what was in the list stays where it was
pub numbered_before : {A : Type 0} (xs : List A) (x : A) (n : ℕ) (y : A) → numbered xs n ≡ Some y → numbered (xs ++ x ∷ []) n ≡ Some y
numbered_before xs x n y e = numbered_still xs x n (not_next xs n y e) ∙ e
