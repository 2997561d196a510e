-- Two lists side by side: what comes of each of the one by its answer of the other.
use Rattle.std.specs.Prelude.{ℕ, ◌+◌, List, [], ◌∷◌, ◌++◌}

module _ {A B : Type 0} where
  -- each is what its answer makes of it; those without an answer are as they were
  abbrev pub each_after : (A → B → A) → List A → List B → List A
  each_after f [] ys = []
  each_after f (x ∷ xs) [] = x ∷ xs
  each_after f (x ∷ xs) (y ∷ ys) = f x y ∷ each_after f xs ys

  -- this is so of each that has an answer, and there is no answer more
  abbrev pub Each : (A → B → Type 0) → List A → List B → Type 0
  Each P xs [] = Unit {0}
  Each P [] (y ∷ ys) = ⊥
  Each P (x ∷ xs) (y ∷ ys) = P x y × Each P xs ys

module _ {A B C : Type 0} where
  -- what each with its answer comes to, one after the other; the first has this number
  abbrev pub each_adds : (ℕ → A → B → List C) → ℕ → List A → List B → List C
  each_adds f n [] ys = []
  each_adds f n (x ∷ xs) [] = []
  each_adds f n (x ∷ xs) (y ∷ ys) = f n x y ++ each_adds f (n + 1) xs ys
