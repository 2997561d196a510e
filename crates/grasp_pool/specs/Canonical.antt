-- The list of the maximal prefixes of a set of addresses.
use Rattle.std.specs.Prelude.{◌≡◌, ℕ, ◌+◌, ◌<◌, ◌≤◌, ◌↔◌, List, Contains, length, slice_index_or}
use Rattle.grasp_types.specs.Prefix.{AddressBlock as Prefix, span_of}
use Rattle.grasp_pool.specs.Spans.{Apart, size, IsValid, Covers}

-- each address of p is one of q
abbrev pub IsInside : Prefix → Prefix → Type 0
IsInside p q = (a : ℕ) → span_of p a → span_of q a

-- p is a prefix all of whose addresses the list covers
pub record IsFreeIn (ps : List Prefix) (p : Prefix) : Type 0 where
  pub valid : IsValid p
  pub all : (a : ℕ) → span_of p a → Covers ps a

-- p is one that lies in no larger one
pub record IsMaximal (ps : List Prefix) (p : Prefix) : Type 0 where
  pub free : IsFreeIn ps p
  pub largest : (q : Prefix) → IsFreeIn ps q → IsInside p q → q ≡ p

-- in rising order of address
abbrev pub IsRising : List Prefix → Type 0
IsRising ps = (i j : ℕ) (d : Prefix) → i < j → j < length ps → (slice_index_or ps i d).address < (slice_index_or ps j d).address

-- the maximal prefixes of what it covers, in rising order
pub record IsCanonical (ps : List Prefix) : Type 0 where
  pub rising : IsRising ps
  pub members : (p : Prefix) → Contains ps p ↔ IsMaximal ps p

-- the lower half of a prefix
abbrev pub lower : Prefix → Prefix
lower p = record { address = p.address; length = p.length + 1 }

-- the upper half of a prefix
abbrev pub upper : Prefix → Prefix
upper p = record { address = p.address + size (lower p); length = p.length + 1 }

-- prefixes without overlap, no two of which make up a larger one
pub record IsClean (ps : List Prefix) : Type 0 where
  pub valid : (p : Prefix) → Contains ps p → IsValid p
  pub apart : (p q : Prefix) → Contains ps p → Contains ps q → ¬ (p ≡ q) → Apart p q
  pub unmerged : (r : Prefix) → IsValid r → r.length < 128 → Contains ps (lower r) → ¬ Contains ps (upper r)

-- such prefixes in rising order, which are the maximal ones of what they cover
pub record IsTidy (ps : List Prefix) : Type 0 where
  pub clean : IsClean ps
  pub rising : IsRising ps

-- p is covered, and no covered prefix of its length has a lesser address
pub record IsLowestFree (ps : List Prefix) (n : ℕ) (p : Prefix) : Type 0 where
  pub free : IsFreeIn ps p
  pub length : p.length ≡ n
  pub least : (q : Prefix) → IsFreeIn ps q → q.length ≡ n → p.address ≤ q.address

-- nothing of this length is covered
abbrev pub HasNoFree : List Prefix → ℕ → Type 0
HasNoFree ps n = (q : Prefix) → IsFreeIn ps q → ¬ (q.length ≡ n)
