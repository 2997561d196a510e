-- One prefix more or less in a rising list.
use Rattle.std.proofs.Common.{◌≡◌, ℕ, suc, zero, ◌<◌, ◌≤◌, ◌⊎◌, inl, inr, List, ◌∷◌, length, Contains, sym, ◌∙◌, ap, subst, arith, slice_index_or, nat_lt, true, false, lt-ltb, ltb-true}
use Rattle.std.proofs.lemmas.List.{get_or_default}
use Rattle.std.proofs.lemmas.List.Elements.{Contains-get_or}
use Rattle.std.proofs.lemmas.Bool.{cases_eq, cases_lt}
use Rattle.std.proofs.lemmas.Bool.Decides.{leb_tells}
use Rattle.grasp_types.specs.Prefix.{AddressBlock as Prefix}
use Rattle.grasp_pool.specs.Canonical.{IsRising}
use Rattle.grasp_pool.specs.Parts.{BeginBelow, BeginFrom}

pub rising_cons : (x : Prefix) (xs : List Prefix) → ((q : Prefix) → Contains xs q → x.address < q.address) → IsRising xs → IsRising (x ∷ xs)
rising_cons x xs h r zero zero d lt within = absurd (omega arith)
rising_cons x xs h r zero (suc j) d lt within = h (slice_index_or xs j d) (Contains-get_or xs j d (omega arith))
rising_cons x xs h r (suc i) zero d lt within = absurd (omega arith)
rising_cons x xs h r (suc i) (suc j) d lt within = r i j d (omega arith) (omega arith)

-- a test and what it says
pub lt_tells : (a b : ℕ) → ((nat_lt a b ≡ true) × (a < b)) ⊎ ((nat_lt a b ≡ false) × (b ≤ a))
lt_tells a b = elim (leb_tells (suc a) b) [ inl h ↦ inl (h.0, h.1) | inr h ↦ inr (h.0, let l : b < suc a = h.1 in omega arith) ]

-- what comes after an address that isn't below comes there too
pub rising_parted : (xs : List Prefix) (a : ℕ) → IsRising xs → (i j : ℕ) (d : Prefix) → i ≤ j → j < length xs
    → nat_lt (slice_index_or xs j d).address a ≡ true → nat_lt (slice_index_or xs i d).address a ≡ true
rising_parted xs a r i j d le within e = elim (cases_eq i j) [
  | inl same ↦ subst (λ n. nat_lt (slice_index_or xs n d).address a ≡ true) (sym same) e
  | inr other ↦
      let lt : i < j = grind arith
      in let up : (slice_index_or xs i d).address < (slice_index_or xs j d).address = r i j d lt within
      in let below : (slice_index_or xs j d).address < a = ltb-true (slice_index_or xs j d).address a e
      in lt-ltb (slice_index_or xs i d).address a (omega arith)
]

-- a prefix isn't in the list where it isn't at the first place that isn't below its address
pub absent_at : (xs : List Prefix) (p : Prefix) (i : ℕ) → IsRising xs
    → BeginBelow xs i p.address
    → BeginFrom xs i p.address
    → ((d : Prefix) → i < length xs → ¬ (slice_index_or xs i d ≡ p)) → ¬ Contains xs p
absent_at xs p i r below above other h =
    let same : (slice_index_or xs h.0 p).address ≡ p.address = ap (λ v. v.address) h.2
    in let within : h.0 < length xs = h.1
    in elim (cases_lt h.0 i) [
      | inl lt ↦ let b : (slice_index_or xs h.0 p).address < p.address = below h.0 p lt in omega arith
      | inr le ↦ elim (cases_eq i h.0) [
        | inl e ↦ other p (omega arith) (ap (λ n. slice_index_or xs n p) e ∙ h.2)
        | inr ne ↦
            let lt : i < h.0 = grind arith
            in let up : (slice_index_or xs i p).address < (slice_index_or xs h.0 p).address = r i h.0 p lt within
            in let le' : p.address ≤ (slice_index_or xs i p).address = above i p (omega arith) (omega arith)
            in omega arith
      ]
    ]

pub absent_from : (xs : List Prefix) (p : Prefix) (i : ℕ) (z : Prefix) → IsRising xs
    → BeginBelow xs i p.address
    → BeginFrom xs i p.address
    → ¬ (slice_index_or xs i z ≡ p) → ¬ Contains xs p
absent_from xs p i z r below above other = absent_at xs p i r below above (λ d within e. other (get_or_default xs i z d within ∙ e))
