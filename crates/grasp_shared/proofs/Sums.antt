-- Sums over lists that change at one place.
use Rattle.std.proofs.Common.{◌≡◌, ℕ, zero, suc, ◌+◌, ◌<◌, ◌≤◌, ◌≢◌, List, [], ◌∷◌, ◌++◌, length, set, sym, refl, ap, arith}
use mathlib.Core.Option.{some, some-injective, some-ne-none}
use lib.ListN.{get_elem?}
use mathlib.Core.Logic.{dite}
use native.Mathlib.Decide.{ℕ_discrete}
use Rattle.grasp_shared.specs.Totals.{total}

module _ {A : Type 0} where
  -- what stands at one place is one
  pub same_at : (l : List A) (i j : ℕ) (a b : A) → get_elem? l i ≡ some a → get_elem? l j ≡ some b → i ≡ j → a ≡ b
  same_at [] i j a b e f p = absurd (some-ne-none a (sym e))
  same_at (x ∷ xs) zero zero a b e f p = cc (e, f)
  same_at (x ∷ xs) zero (suc j) a b e f p = absurd (omega arith)
  same_at (x ∷ xs) (suc i) zero a b e f p = absurd (omega arith)
  same_at (x ∷ xs) (suc i) (suc j) a b e f p = same_at xs i j a b e f (omega arith)

  pub within : (l : List A) (i : ℕ) (a : A) → get_elem? l i ≡ some a → i < length l
  within [] i a e = absurd (some-ne-none a (sym e))
  within (x ∷ xs) zero a e = omega arith
  within (x ∷ xs) (suc i) a e = let h = within xs i a e in omega arith

  -- a new last one stands at the end, and the others stand where they did
  pub at_end : (l : List A) (a b : A) (j : ℕ) → get_elem? (l ++ a ∷ []) j ≡ some b → (j ≢ length l → get_elem? l j ≡ some b) × (j ≡ length l → a ≡ b)
  at_end [] a b zero e = ((λ n. absurd (n refl)), λ _. some-injective a b e)
  at_end [] a b (suc j) e = absurd (some-ne-none b (sym e))
  at_end (x ∷ xs) a b zero e = ((λ _. e), λ p. absurd (omega arith))
  at_end (x ∷ xs) a b (suc j) e = let t = at_end xs a b j e in ((λ n. t.0 (λ p. n (omega arith))), λ p. t.1 (omega arith))

  module _ (g : A → ℕ) where
    pub total-append : (l m : List A) → total g (l ++ m) ≡ total g l + total g m
    total-append [] m = omega arith
    total-append (x ∷ xs) m = omega (arith, total-append xs m)

    pub total-set : (l : List A) (j : ℕ) (v w : A) → get_elem? l j ≡ some v → total g (set l j w) + g v ≡ total g l + g w
    total-set [] j v w e = absurd (some-ne-none v (sym e))
    total-set (x ∷ xs) zero v w e = omega (arith, ap g (some-injective x v e))
    total-set (x ∷ xs) (suc j) v w e = omega (arith, total-set xs j v w e)

    pub term_le : (l : List A) (j : ℕ) (v : A) → get_elem? l j ≡ some v → g v ≤ total g l
    term_le [] j v e = absurd (some-ne-none v (sym e))
    term_le (x ∷ xs) zero v e = omega (arith, ap g (some-injective x v e))
    term_le (x ∷ xs) (suc j) v e = omega (arith, term_le xs j v e)

    pub terms_le : (l : List A) (j k : ℕ) (v u : A) → k ≢ j → get_elem? l j ≡ some v → get_elem? l k ≡ some u → g v + g u ≤ total g l
    terms_le [] j k v u n e d = absurd (some-ne-none v (sym e))
    terms_le (x ∷ xs) zero zero v u n e d = absurd (n refl)
    terms_le (x ∷ xs) zero (suc k) v u n e d = omega (arith, ap g (some-injective x v e), term_le xs k u d)
    terms_le (x ∷ xs) (suc j) zero v u n e d = omega (arith, ap g (some-injective x u d), term_le xs j v e)
    terms_le (x ∷ xs) (suc j) (suc k) v u n e d = omega (arith, terms_le xs j k v u (λ h. n (ap suc h)) e d)

    -- a sum that is not 0 has a term that is not 0
    pub positive_at : (l : List A) → 0 < total g l → (j : ℕ) × (u : A) × (get_elem? l j ≡ some u) × (0 < g u)
    positive_at [] h = absurd (omega arith)
    positive_at (x ∷ xs) h = dite (ℕ_discrete (g x) 0) (λ z. let t = positive_at xs (omega arith) in (suc t.0, t.1, t.2, t.3)) (λ n. (0, x, refl, omega arith))
