-- Entries of a map whose values are changed one after another.
use Rattle.std.proofs.Common.{zero, suc, ◌≡◌, ℕ, ◌+◌, ◌≤◌, List, [], ◌∷◌, length, map, slice_get, Some, refl, sym, ap, ◌∙◌, arith, add-one}

-- the first i entries through f, and the others as they were
abbrev pub first_through : {X : Type 0} → (X → X) → ℕ → List X → List X
first_through f i [] = []
first_through f zero (x ∷ xs) = x ∷ xs
first_through f (suc i) (x ∷ xs) = f x ∷ first_through f i xs

pub first_through_none : {X : Type 0} (f : X → X) (xs : List X) → first_through f 0 xs ≡ xs
first_through_none f [] = refl
first_through_none f (x ∷ xs) = refl

pub first_through_all : {X : Type 0} (f : X → X) (i : ℕ) (xs : List X) → length xs ≤ i → first_through f i xs ≡ map f xs
first_through_all f i [] h = refl
first_through_all f zero (x ∷ xs) h = absurd (omega arith)
first_through_all f (suc i) (x ∷ xs) h = ap (λ rest. f x ∷ rest) (first_through_all f i xs (omega arith))

pub length_first_through : {X : Type 0} (f : X → X) (i : ℕ) (xs : List X) → length (first_through f i xs) ≡ length xs
length_first_through f i [] = refl
length_first_through f zero (x ∷ xs) = refl
length_first_through f (suc i) (x ∷ xs) = ap suc (length_first_through f i xs)

-- the function writes the value of the entry at a place and keeps its key, as a map does
pub record WritesValue {K V : Type 0} (write : List (K × V) → ℕ → V → List (K × V)) : Type 0 where
  pub none : (i : ℕ) (w : V) → write [] i w ≡ []
  pub first : (x : K × V) (xs : List (K × V)) (w : V) → write (x ∷ xs) 0 w ≡ (x.0, w) ∷ xs
  pub later : (x : K × V) (xs : List (K × V)) (i : ℕ) (w : V) → write (x ∷ xs) (suc i) w ≡ x ∷ write xs i w

module _ {K V : Type 0} (write : List (K × V) → ℕ → V → List (K × V)) (writes : WritesValue write) (f : K × V → K × V) where
  first_through_suc : (i : ℕ) (xs : List (K × V)) (k : K) (v w : V) → slice_get (first_through f i xs) i ≡ Some (k, v) → (k, w) ≡ f (k, v)
      → write (first_through f i xs) i w ≡ first_through f (suc i) xs
  first_through_suc i [] k v w at is = writes.none i w
  first_through_suc zero (x ∷ xs) k v w at is =
      let here : x ≡ (k, v) = cc in
      let front : (x.0, w) ≡ f x = ap (λ (p : K × V). (p.0, w)) here ∙ is ∙ ap f (sym here) in
      writes.first x xs w ∙ ap (λ p. p ∷ xs) front ∙ ap (λ rest. f x ∷ rest) (sym (first_through_none f xs))
  first_through_suc (suc i) (x ∷ xs) k v w at is =
      writes.later (f x) (first_through f i xs) i w ∙ ap (λ rest. f x ∷ rest) (first_through_suc i xs k v w at is)

  -- a write of the next value through f
  pub first_through_more : (i : ℕ) (xs : List (K × V)) (k : K) (v w : V) → slice_get (first_through f i xs) i ≡ Some (k, v) → (k, w) ≡ f (k, v)
      → write (first_through f i xs) i w ≡ first_through f (i + 1) xs
  first_through_more i xs k v w at is = first_through_suc i xs k v w at is ∙ sym (ap (λ n. first_through f n xs) (add-one i))
