-- What the test of a plan compares.
use Rattle.std.proofs.Common.{◌≡◌, ◌+◌, ◌<◌, ◌≤◌, inl, inr, ◌↔◌, ℕ, sym, subst, arith, false, List, length, slice_index_or, IsTrue, nat_lt, lt-ltb}
use Rattle.std.proofs.lemmas.Bool.{cases_eq, cases_lt, le-ltb}
use Rattle.std.proofs.lemmas.List.{get_or_default}
use Rattle.grasp_types.specs.Prefix.{AddressBlock as Prefix, Overlap}
use Rattle.grasp_pool.specs.Spans.{Apart, size}
use Rattle.grasp_pool.proofs.Meeting.{meets}
use Rattle.grasp_model_network.specs.declared.plan.RootAt.{RootAt}

-- ---- two prefixes

-- a prefix that ends before the other begins is apart from it
pub ends_before : (p q : Prefix) (last : ℕ) → last + 1 ≡ p.address + size p → last < q.address → Apart p q
ends_before p q last e h a x y = let i : a < p.address + size p = x.1 in let j : q.address ≤ a = y.0 in omega arith

-- a prefix that begins after the other ends is apart from it
begins_behind : (p q : Prefix) (last : ℕ) → last + 1 ≡ q.address + size q → last < p.address → Apart p q
begins_behind p q last e h a x y = let i : p.address ≤ a = x.0 in let j : a < q.address + size q = y.1 in omega arith

-- two prefixes of which neither ends before the other begins aren't apart
not_apart : (p q : Prefix) (first last : ℕ) → first + 1 ≡ p.address + size p → last + 1 ≡ q.address + size q → q.address ≤ first → p.address ≤ last → ¬ Apart p q
not_apart p q first last e f h k apart =
    let m : Overlap p q = meets p q (omega arith) (omega arith) in
    apart m.0 m.1.0 m.1.1

-- where the first doesn't end before the second begins, the two are apart exactly where the second ends before the first begins
pub apart_by_last : (p q : Prefix) (first last : ℕ) → first + 1 ≡ p.address + size p → last + 1 ≡ q.address + size q → q.address ≤ first → IsTrue (nat_lt last p.address) ↔ Apart p q
apart_by_last p q first last e f h = elim (cases_lt last p.address) [
  | inl lt ↦ (λ _. begins_behind p q last f lt, λ _. lt-ltb last p.address lt)
  | inr le ↦ (λ t. absurd (let not : nat_lt last p.address ≡ false = le-ltb last p.address le in cc), λ apart. absurd (not_apart p q first last e f h le apart))
]

-- ---- lists

abbrev pub no_root : RootAt
no_root = record { node = 0; root = record { address = 0; length = 0 } }

-- what is so of one place and each before it, and of one more
pub more_below : {X : Type 0} (R : X → X → Type 0) (xs : List X) (place i : ℕ) (z : X) → place < length xs → i < place → ((k : ℕ) (d : X) → k < i → R (slice_index_or xs k d) (slice_index_or xs place d)) → R (slice_index_or xs i z) (slice_index_or xs place z)
    → (k : ℕ) (d : X) → k < i + 1 → R (slice_index_or xs k d) (slice_index_or xs place d)
more_below {X} R xs place i z within lt before here k d h = elim (cases_eq k i) [
  | inl e ↦
      subst (λ (j : ℕ). R (slice_index_or xs j d) (slice_index_or xs place d)) (sym e)
      (subst (λ (x : X). R x (slice_index_or xs place d)) (get_or_default xs i z d (omega arith)) (subst (λ (x : X). R (slice_index_or xs i z) x) (get_or_default xs place z d within) here))
  | inr ne ↦ before k d (grind arith)
]

-- what is so of each so far, and of one more
pub more_of_each : {X : Type 0} (P : X → Type 0) (xs : List X) (i : ℕ) (z : X) → i < length xs → ((k : ℕ) (d : X) → k < i → P (slice_index_or xs k d)) → P (slice_index_or xs i z) → (k : ℕ) (d : X) → k < i + 1 → P (slice_index_or xs k d)
more_of_each {X} P xs i z within before here k d h = elim (cases_eq k i) [
  | inl e ↦ subst (λ (j : ℕ). P (slice_index_or xs j d)) (sym e) (subst P (get_or_default xs i z d within) here)
  | inr ne ↦ before k d (grind arith)
]
