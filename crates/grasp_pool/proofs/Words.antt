-- What becomes of a list where prefixes come and go.
use Rattle.std.specs.Prelude.{◌≡◌, ℕ, ◌+◌, ◌<◌, ◌≤◌, ◌⊎◌, ◌↔◌, List, Contains, length}
use Rattle.grasp_types.specs.Prefix.{AddressBlock as Prefix, span_of}
use Rattle.grasp_pool.specs.Spans.{IsValid, Covers}
use Rattle.grasp_pool.specs.Canonical.{IsTidy, IsLowestFree, lower, upper}
use Rattle.grasp_pool.specs.Parts.{ApartFrom}
use Rattle.grasp_pool.specs.declared.halves.Halves.{Halves}

-- p and its buddy are the halves of the parent
pub record AreHalves (p : Prefix) (h : Halves) : Type 0 where
  pub valid : IsValid h.parent
  pub length : h.parent.length + 1 ≡ p.length
  pub halves : ((p ≡ lower h.parent) × (h.buddy ≡ upper h.parent)) ⊎ ((p ≡ upper h.parent) × (h.buddy ≡ lower h.parent))

-- p is one more
abbrev pub IsAdded : List Prefix → List Prefix → Prefix → Type 0
IsAdded old new p = (q : Prefix) → Contains new q ↔ (Contains old q ⊎ (q ≡ p))

-- p is one less
abbrev pub IsRemoved : List Prefix → List Prefix → Prefix → Type 0
IsRemoved old new p = (q : Prefix) → Contains new q ↔ (Contains old q × (¬ (q ≡ p)))

-- p's buddy isn't in the list
abbrev pub IsAlone : List Prefix → Prefix → Type 0
IsAlone ps p = (r : Prefix) → IsValid r → r.length < 128
    → (p ≡ lower r → ¬ Contains ps (upper r)) × (p ≡ upper r → ¬ Contains ps (lower r))

-- the list with r has the addresses that the old one had with p
abbrev pub IsSame : List Prefix → Prefix → List Prefix → Prefix → Type 0
IsSame old p new r = (a : ℕ) → (Covers new a ⊎ span_of r a) ↔ (Covers old a ⊎ span_of p a)

-- p's buddy was taken from the list, and r has both
pub record IsJoined (old : List Prefix) (p : Prefix) (new : List Prefix) (r : Prefix) : Type 0 where
  pub tidy : IsTidy new
  pub valid : IsValid r
  pub apart : ApartFrom new r
  pub same : IsSame old p new r
  pub shorter : r.length + 1 ≡ p.length
  pub fewer : length new + 1 ≡ length old

-- p was the least of this length, and is no longer covered
pub record IsCarved (old new : List Prefix) (n : ℕ) (p : Prefix) : Type 0 where
  pub tidy : IsTidy new
  pub least : IsLowestFree old n p
  pub covers : (a : ℕ) → Covers new a ↔ (Covers old a × (¬ span_of p a))
  pub few : length new ≤ length old + 126
