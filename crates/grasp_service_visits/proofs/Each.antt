-- Two lists side by side, one answer after the other.
use Rattle.std.proofs.Common.{◌≡◌, ℕ, ◌+◌, suc, List, [], ◌∷◌, ◌++◌, length, refl, sym, ap, ◌∙◌, append_assoc, arith, Some, None, subst}
use Rattle.std.specs.Prelude.{slice_get, slice_set}
use Rattle.std.proofs.lemmas.List.{append-nil}
use Rattle.grasp_service_visits.specs.Each.{each_after, each_adds, Each}

-- `Some` of two values is one of both
pub some_same : {A : Type 0} (a b : A) → Some a ≡ Some b → a ≡ b
some_same a b p = cc

module _ {A B : Type 0} where
  -- with no answer all are as they were
  pub after_none : (f : A → B → A) (xs : List A) → each_after f xs [] ≡ xs
  after_none f [] = refl
  after_none f (x ∷ xs) = refl

  -- each keeps its place
  pub after_length : (f : A → B → A) (xs : List A) (ys : List B) → length (each_after f xs ys) ≡ length xs
  after_length f [] ys = refl
  after_length f (x ∷ xs) [] = refl
  after_length f (x ∷ xs) (y ∷ ys) = ap (λ n. suc n) (after_length f xs ys)

  -- the next one is as it was
  pub after_next : (f : A → B → A) (xs : List A) (ys : List B) → slice_get (each_after f xs ys) (length ys) ≡ slice_get xs (length ys)
  after_next f [] ys = refl
  after_next f (x ∷ xs) [] = refl
  after_next f (x ∷ xs) (y ∷ ys) = after_next f xs ys

  -- one answer more
  pub after_more : (f : A → B → A) (xs : List A) (ys : List B) (x : A) (y : B) → slice_get xs (length ys) ≡ Some x
      → each_after f xs (ys ++ y ∷ []) ≡ slice_set (each_after f xs ys) (length ys) (f x y)
  after_more f [] ys x y p = refl
  after_more f (z ∷ xs) [] x y p = cc (after_none f xs, some_same z x p)
  after_more f (z ∷ xs) (w ∷ ys) x y p = ap (λ l. f z w ∷ l) (after_more f xs ys x y p)

  pub each_more : (P : A → B → Type 0) (xs : List A) (ys : List B) (x : A) (y : B) → slice_get xs (length ys) ≡ Some x → Each P xs ys → P x y
      → Each P xs (ys ++ y ∷ [])
  each_more P [] ys x y p e q = absurd (none_is_some x p)
    where
      none_is_some : (v : A) → None ≡ Some v → ⊥
      none_is_some v h = cc
  each_more P (z ∷ xs) [] x y p e q = (subst (λ v. P v y) (sym (some_same z x p)) q, tt)
  each_more P (z ∷ xs) (w ∷ ys) x y p e q = (e.0, each_more P xs ys x y p e.1 q)

module _ {A B C : Type 0} where
  -- none comes to nothing
  pub adds_none : (f : ℕ → A → B → List C) (n : ℕ) (xs : List A) → each_adds f n xs [] ≡ []
  adds_none f n [] = refl
  adds_none f n (x ∷ xs) = refl

  -- what one answer more comes to
  pub adds_more : (f : ℕ → A → B → List C) (n : ℕ) (xs : List A) (ys : List B) (x : A) (y : B) → slice_get xs (length ys) ≡ Some x
      → each_adds f n xs (ys ++ y ∷ []) ≡ each_adds f n xs ys ++ f (n + length ys) x y
  adds_more f n [] ys x y p = absurd (none_is_some x p)
    where
      none_is_some : (v : A) → None ≡ Some v → ⊥
      none_is_some v h = cc
  adds_more f n (z ∷ xs) [] x y p =
      ap (λ l. f n z y ++ l) (adds_none f (n + 1) xs) ∙ append-nil (f n z y) ∙ ap (λ v. f n v y) (some_same z x p)
      ∙ ap (λ m. f m x y) (let e : n ≡ n + 0 = omega arith in e)
  adds_more f n (z ∷ xs) (w ∷ ys) x y p =
      ap (λ l. f n z w ++ l) (adds_more f (n + 1) xs ys x y p) ∙ sym (append_assoc (f n z w) (each_adds f (n + 1) xs ys) (f (n + 1 + length ys) x y))
      ∙ ap (λ m. (f n z w ++ each_adds f (n + 1) xs ys) ++ f m x y) (let e : n + 1 + length ys ≡ n + suc (length ys) = omega arith in e)
