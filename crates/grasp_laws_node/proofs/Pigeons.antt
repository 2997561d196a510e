-- Numbers that are drawn one after the other until one isn't used.
use Rattle.std.proofs.Common.{◌≡◌, ◌≢◌, ℕ, zero, suc, ◌+◌, ◌<◌, ◌≤◌, ◌%◌, ◌^◌, Bool, true, false, cond, ◌||◌, ◌==◌, if◌then◌else◌, List, [], ◌∷◌, ◌++◌, length, refl, sym, ◌∙◌, subst, arith}
use Rattle.std.proofs.lemmas.Bool.{false≢true, eqb-true}
use Rattle.grasp_model_node.specs.Draws.{first_unused}

-- the number is in the list
abbrev pub has : ℕ → List ℕ → Bool
has k [] = false
has k (x ∷ xs) = (x == k) || has k xs

-- without the first that is this number
abbrev without : ℕ → List ℕ → List ℕ
without m [] = []
without m (x ∷ xs) = if x == m then xs else x ∷ without m xs

pub has_either : (k : ℕ) (xs ys : List ℕ) → has k (xs ++ ys) ≡ has k xs || has k ys
has_either k [] ys = refl
has_either k (x ∷ xs) ys = by_test (x == k) (has_either k xs ys) where
  by_test : (b : Bool) → has k (xs ++ ys) ≡ has k xs || has k ys → b || has k (xs ++ ys) ≡ (b || has k xs) || has k ys
  by_test true e = refl
  by_test false e = e

shorter : (m : ℕ) (xs : List ℕ) → has m xs ≡ true → length xs ≡ length (without m xs) + 1
shorter m [] h = absurd (false≢true h)
shorter m (x ∷ xs) h = by_test (x == m) h (λ g. shorter m xs g) where
  by_test : (b : Bool) → b || has m xs ≡ true → (has m xs ≡ true → length xs ≡ length (without m xs) + 1) → suc (length xs) ≡ length (cond b xs (x ∷ without m xs)) + 1
  by_test true g f = omega arith
  by_test false g f = let e = f g in omega (arith, e)

others : (m k : ℕ) (xs : List ℕ) → k ≢ m → has k xs ≡ true → has k (without m xs) ≡ true
others m k [] d h = h
others m k (x ∷ xs) d h = by_test (x == m) refl (λ g. others m k xs d g) where
  by_first : x ≡ m → (b : Bool) → (x == k) ≡ b → b || has k xs ≡ true → has k xs ≡ true
  by_first e true f g = absurd (d (sym (eqb-true x k f) ∙ e))
  by_first e false f g = g

  by_either : (b : Bool) → b || has k xs ≡ true → (has k xs ≡ true → has k (without m xs) ≡ true) → b || has k (without m xs) ≡ true
  by_either true g f = refl
  by_either false g f = f g

  by_test : (b : Bool) → (x == m) ≡ b → (has k xs ≡ true → has k (without m xs) ≡ true) → has k (cond b xs (x ∷ without m xs)) ≡ true
  by_test true e f = by_first (eqb-true x m e) (x == k) refl h
  by_test false e f = by_either (x == k) h f

-- the first candidate is in the list where it is used
first_has : (used : ℕ → Bool) (xs : List ℕ) (number : ℕ) → number < 2 ^ 32 → (used ((number + 0) % 2 ^ 32) ≡ true → has ((number + 0) % 2 ^ 32) xs ≡ true) → used number ≡ true → has number xs ≡ true
first_has used xs number n f = let e : (number + 0) % 2 ^ 32 ≡ number = omega (arith, n) in subst (λ m. used m ≡ true → has m xs ≡ true) e f

next_has : (used : ℕ → Bool) (xs : List ℕ) (number j : ℕ) → number < 2 ^ 32 → suc j < 2 ^ 32 → (used ((number + suc j) % 2 ^ 32) ≡ true → has ((number + suc j) % 2 ^ 32) xs ≡ true)
    → used (((number + 1) % 2 ^ 32 + j) % 2 ^ 32) ≡ true → has (((number + 1) % 2 ^ 32 + j) % 2 ^ 32) (without number xs) ≡ true
next_has used xs number j n h f =
    let e : (number + suc j) % 2 ^ 32 ≡ ((number + 1) % 2 ^ 32 + j) % 2 ^ 32 = omega (arith, n, h) in
    let d : (number + suc j) % 2 ^ 32 ≢ number = λ q. omega (arith, n, h, q) in
    subst (λ m. used m ≡ true → has m (without number xs) ≡ true) e (λ u. others number ((number + suc j) % 2 ^ 32) xs d (f u))

-- Of more numbers one after the other than a list has, one isn't in it: where all that are used are in the list, what
-- is drawn isn't used
pub pigeons : (used : ℕ → Bool) (k : ℕ) (xs : List ℕ) (number : ℕ) → number < 2 ^ 32 → k < 2 ^ 32 → length xs ≤ k
    → ((j : ℕ) → j ≤ k → used ((number + j) % 2 ^ 32) ≡ true → has ((number + j) % 2 ^ 32) xs ≡ true)
    → (used (first_unused used k number) ≡ false) × (first_unused used k number < 2 ^ 32)
unfolding first_unused
pigeons used zero xs number n k l f = by_test (used number) refl where
  by_test : (b : Bool) → used number ≡ b → (used number ≡ false) × (number < 2 ^ 32)
  by_test true e = let s = shorter number xs (first_has used xs number n (f 0 (omega arith)) e) in absurd (omega (arith, l, s))
  by_test false e = (e, n)
pigeons used (suc k) xs number n m l f =
    by_test (used number) refl
    (λ s. pigeons used k (without number xs) ((number + 1) % 2 ^ 32) (omega arith) (omega (arith, m)) (omega (arith, l, s))
    (λ j h. next_has used xs number j n (omega (arith, m, h)) (f (suc j) (omega (arith, h))))) where
      by_test : (b : Bool) → used number ≡ b
          → (length xs ≡ length (without number xs) + 1 → (used (first_unused used k ((number + 1) % 2 ^ 32)) ≡ false) × (first_unused used k ((number + 1) % 2 ^ 32) < 2 ^ 32))
          → (used (cond b (first_unused used k ((number + 1) % 2 ^ 32)) number) ≡ false) × (cond b (first_unused used k ((number + 1) % 2 ^ 32)) number < 2 ^ 32)
      by_test true e g = g (shorter number xs (first_has used xs number n (f 0 (omega arith)) e))
      by_test false e g = (e, n)
