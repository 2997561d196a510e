-- What stands in a list where one place is set or removed, or one thing comes last.
use Rattle.std.proofs.Common.{◌≡◌, ◌≢◌, refl, ap, ◌∙◌, arith, ℕ, zero, suc, ◌+◌, ◌⊎◌, inl, inr, List, [], ◌∷◌, ◌++◌, take, drop, slice_get, slice_set, None, Some, Contains}

module _ {A : Type 0} where
  pub some_is : (x y : A) → Some x ≡ Some y → x ≡ y
  some_is x y e = cc

  pub set_back : (xs : List A) (p : ℕ) (v : A) (i : ℕ) (x : A) → slice_get (slice_set xs p v) i ≡ Some x → ((i ≡ p) × (v ≡ x)) ⊎ ((i ≢ p) × (slice_get xs i ≡ Some x))
  set_back [] p v i x e = absurd (cc)
  set_back (a ∷ xs) zero v zero x e = inl (refl, some_is v x e)
  set_back (a ∷ xs) zero v (suc i) x e = inr (λ f. cc, e)
  set_back (a ∷ xs) (suc p) v zero x e = inr (λ f. cc, e)
  set_back (a ∷ xs) (suc p) v (suc i) x e = next (set_back xs p v i x e) where
    next : ((i ≡ p) × (v ≡ x)) ⊎ ((i ≢ p) × (slice_get xs i ≡ Some x)) → ((suc i ≡ suc p) × (v ≡ x)) ⊎ ((suc i ≢ suc p) × (slice_get xs i ≡ Some x))
    next (inl k) = inl (ap suc k.0, k.1)
    next (inr k) = inr (λ f. k.0 (cc), k.1)

  -- each place that stands goes on to stand, also the one that is set
  pub set_on : (xs : List A) (p : ℕ) (v : A) (i : ℕ) (x : A) → slice_get xs i ≡ Some x → ((i ≡ p) × (slice_get (slice_set xs p v) i ≡ Some v)) ⊎ ((i ≢ p) × (slice_get (slice_set xs p v) i ≡ Some x))
  set_on [] p v i x e = absurd (cc)
  set_on (a ∷ xs) zero v zero x e = inl (refl, refl)
  set_on (a ∷ xs) zero v (suc i) x e = inr (λ f. cc, e)
  set_on (a ∷ xs) (suc p) v zero x e = inr (λ f. cc, e)
  set_on (a ∷ xs) (suc p) v (suc i) x e = next (set_on xs p v i x e) where
    next : ((i ≡ p) × (slice_get (slice_set xs p v) i ≡ Some v)) ⊎ ((i ≢ p) × (slice_get (slice_set xs p v) i ≡ Some x))
        → ((suc i ≡ suc p) × (slice_get (slice_set xs p v) i ≡ Some v)) ⊎ ((suc i ≢ suc p) × (slice_get (slice_set xs p v) i ≡ Some x))
    next (inl k) = inl (ap suc k.0, k.1)
    next (inr k) = inr (λ f. k.0 (cc), k.1)

  -- one more comes last
  pub last_back : (xs : List A) (v : A) (i : ℕ) (x : A) → slice_get (xs ++ v ∷ []) i ≡ Some x → (slice_get xs i ≡ Some x) ⊎ ((slice_get xs i ≡ None) × (v ≡ x))
  last_back [] v zero x e = inr (refl, some_is v x e)
  last_back [] v (suc i) x e = absurd (cc)
  last_back (a ∷ xs) v zero x e = inl e
  last_back (a ∷ xs) v (suc i) x e = last_back xs v i x e

  pub one_last : (xs : List A) (v : A) (i j : ℕ) (x y : A) → slice_get (xs ++ v ∷ []) i ≡ Some x → slice_get (xs ++ v ∷ []) j ≡ Some y → slice_get xs i ≡ None → slice_get xs j ≡ None → i ≡ j
  one_last [] v zero zero x y e f g h = refl
  one_last (a ∷ xs) v (suc i) (suc j) x y e f g h = ap suc (one_last xs v i j x y e f g h)
  one_last _ v _ _ x y e f g h = absurd (cc)

  pub last_on : (xs : List A) (v : A) (i : ℕ) (x : A) → slice_get xs i ≡ Some x → slice_get (xs ++ v ∷ []) i ≡ Some x
  last_on [] v i x e = absurd (cc)
  last_on (a ∷ xs) v zero x e = e
  last_on (a ∷ xs) v (suc i) x e = last_on xs v i x e

-- ---- a place is removed

-- where the place stood before
abbrev pub place_before : ℕ → ℕ → ℕ
place_before zero i = suc i
place_before (suc p) zero = zero
place_before (suc p) (suc i) = suc (place_before p i)

pub before_apart : (p i j : ℕ) → place_before p i ≡ place_before p j → i ≡ j
before_apart zero i j e = cc
before_apart (suc p) zero zero e = refl
before_apart (suc p) zero (suc j) e = absurd (cc)
before_apart (suc p) (suc i) zero e = absurd (cc)
before_apart (suc p) (suc i) (suc j) e = ap suc (before_apart p i j (cc))

pub not_removed : (p i : ℕ) → place_before p i ≢ p
not_removed zero i = λ e. cc
not_removed (suc p) zero = λ e. cc
not_removed (suc p) (suc i) = λ e. not_removed p i (cc)

module _ {A : Type 0} where
  abbrev cut : List A → ℕ → List A
  cut xs p = take p xs ++ drop (suc p) xs

  cut_back : (xs : List A) (p i : ℕ) → slice_get (cut xs p) i ≡ slice_get xs (place_before p i)
  cut_back [] zero i = refl
  cut_back (a ∷ xs) (suc p) (suc i) = cut_back xs p i
  cut_back _ _ _ = refl

  cut_on : (xs : List A) (p i : ℕ) (x : A) → slice_get xs i ≡ Some x → i ≢ p → (j : ℕ) × (slice_get (cut xs p) j ≡ Some x)
  cut_on [] p i x e n = absurd (cc)
  cut_on (a ∷ xs) zero zero x e n = absurd (n refl)
  cut_on (a ∷ xs) zero (suc i) x e n = (i, e)
  cut_on (a ∷ xs) (suc p) zero x e n = (zero, e)
  cut_on (a ∷ xs) (suc p) (suc i) x e n = let k = cut_on xs p i x e (λ f. n (ap suc f)) in (suc k.0, k.1)

  removed_is : (xs : List A) (p : ℕ) → take p xs ++ drop (p + 1) xs ≡ cut xs p
  removed_is xs p = let e : p + 1 ≡ suc p = omega arith in ap (λ n. take p xs ++ drop n xs) e

  pub removed_back : (xs : List A) (p i : ℕ) → slice_get (take p xs ++ drop (p + 1) xs) i ≡ slice_get xs (place_before p i)
  removed_back xs p i = ap (λ l. slice_get l i) (removed_is xs p) ∙ cut_back xs p i

  pub removed_on : (xs : List A) (p i : ℕ) (x : A) → slice_get xs i ≡ Some x → i ≢ p → (j : ℕ) × (slice_get (take p xs ++ drop (p + 1) xs) j ≡ Some x)
  removed_on xs p i x e n = let k = cut_on xs p i x e n in (k.0, ap (λ l. slice_get l k.0) (removed_is xs p) ∙ k.1)

-- ---- what is in a list

module _ {A : Type 0} where
  pub cons_cases : (x y : A) (xs : List A) → Contains (x ∷ xs) y → (x ≡ y) ⊎ Contains xs y
  cons_cases x y xs (zero, lt, is) = inl is
  cons_cases x y xs (suc k, lt, is) = inr (k, omega arith, is)
