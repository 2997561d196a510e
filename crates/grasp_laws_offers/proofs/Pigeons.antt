-- So many numbers that differ aren't all below a lesser one.
use Rattle.std.proofs.Common.{◌≡◌, ◌<◌, ◌≤◌, ◌==◌, ◌⊎◌, inl, inr, ℕ, zero, suc, Bool, true, false, cond, refl, sym, ◌∙◌, arith}
use Rattle.std.proofs.lemmas.Bool.{eqb-true, eqb-false}

abbrev avoiding : (ℕ → ℕ) → ℕ → ℕ → ℕ → ℕ
avoiding f m last i = cond (f i == m) (f last) (f i)

abbrev Avoids : ℕ → ℕ → ℕ → ℕ → Type 0
Avoids x m y r = ((x ≡ m) × (r ≡ y)) ⊎ ((x ≡ m → ⊥) × (r ≡ x))

avoids_by : (x m y : ℕ) (t : Bool) → (x == m) ≡ t → Avoids x m y (cond t y x)
avoids_by x m y true e = inl (eqb-true x m e, refl)
avoids_by x m y false e = inr (eqb-false x m e, refl)

avoids : (x m y : ℕ) → Avoids x m y (cond (x == m) y x)
avoids x m y = avoids_by x m y (x == m) refl

abbrev pub Into : (ℕ → ℕ) → ℕ → ℕ → Type 0
Into f n m = (i : ℕ) → i < n → f i < m

abbrev pub OneToOne : (ℕ → ℕ) → ℕ → Type 0
OneToOne f n = (i j : ℕ) → i < n → j < n → f i ≡ f j → i ≡ j

into_less : (f : ℕ → ℕ) (n m : ℕ) → Into f (suc n) (suc m) → OneToOne f (suc n) → Into (avoiding f m n) n m
into_less f n m into one i p = by (avoids (f i) m (f n)) where
  here : f i < suc m
  here = into i (omega (arith, p))

  last : f n < suc m
  last = into n (omega arith)

  differ : f i ≡ f n → ⊥
  differ e = let z = one i n (omega (arith, p)) (omega arith) e in omega (arith, z, p)

  below : (k r : ℕ) → r ≡ k → k < suc m → (k ≡ m → ⊥) → r < m
  below k r e lt differs = omega (arith, e, lt, differs)

  by : Avoids (f i) m (f n) (avoiding f m n i) → avoiding f m n i < m
  by (inl w) = below (f n) (avoiding f m n i) w.1 last (λ c. differ (w.0 ∙ sym c))
  by (inr w) = below (f i) (avoiding f m n i) w.1 here w.0

one_less : (f : ℕ → ℕ) (n m : ℕ) → OneToOne f (suc n) → OneToOne (avoiding f m n) n
one_less f n m one i j p q e = by (avoids (f i) m (f n)) (avoids (f j) m (f n)) where
  by : Avoids (f i) m (f n) (avoiding f m n i) → Avoids (f j) m (f n) (avoiding f m n j) → i ≡ j
  by (inl v) (inl w) = one i j (omega (arith, p)) (omega (arith, q)) (v.0 ∙ sym w.0)
  by (inl v) (inr w) = let z = one n j (omega arith) (omega (arith, q)) (sym v.1 ∙ e ∙ w.1) in absurd (omega (arith, z, q))
  by (inr v) (inl w) = let z = one i n (omega (arith, p)) (omega arith) (sym v.1 ∙ e ∙ w.1) in absurd (omega (arith, z, p))
  by (inr v) (inr w) = one i j (omega (arith, p)) (omega (arith, q)) (sym v.1 ∙ e ∙ w.1)

pub pigeonhole : (n m : ℕ) (f : ℕ → ℕ) → Into f n m → OneToOne f n → n ≤ m
pigeonhole zero m f into one = omega arith
pigeonhole (suc n) zero f into one = let z = into n (omega arith) in absurd (omega (arith, z))
pigeonhole (suc n) (suc m) f into one = let z = pigeonhole n m (avoiding f m n) (into_less f n m into one) (one_less f n m one) in omega (arith, z)
