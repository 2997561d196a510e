-- The roots that a pool is opened with.
use Rattle.std.specs.Prelude.{ℕ, ◌<◌, List, Contains, length, slice_index_or}
use Rattle.grasp_types.specs.Prefix.{AddressBlock as Prefix, span_of, Overlap}
use Rattle.grasp_pool.specs.Spans.{Apart, IsValid}
use Rattle.grasp_pool.specs.declared.roots.RootPrefix.{RootPrefix}
use Rattle.grasp_pool.specs.declared.roots.Clash.{Clash}

-- the prefix that a root names
abbrev pub block_of : RootPrefix → Prefix
block_of r = record { address = r.address; length = r.length }

-- an address of one of the roots
abbrev pub IsRootAddress : List RootPrefix → ℕ → Type 0
IsRootAddress roots a = (r : RootPrefix) × Contains roots r × span_of (block_of r) a

-- each of the first n roots is a prefix
abbrev pub AllValid : List RootPrefix → ℕ → Type 0
AllValid roots n = (k : ℕ) (d : RootPrefix) → k < n → k < length roots → IsValid (block_of (slice_index_or roots k d))

-- each of the first n roots is apart from p
abbrev pub RootsApart : List RootPrefix → Prefix → ℕ → Type 0
RootsApart roots p n = (k : ℕ) (d : RootPrefix) → k < n → k < length roots → Apart (block_of (slice_index_or roots k d)) p

-- each of the first n roots is apart from those before it
abbrev pub AllApart : List RootPrefix → ℕ → Type 0
AllApart roots n = (j : ℕ) (d : RootPrefix) → j < n → j < length roots → RootsApart roots (block_of (slice_index_or roots j d)) j

-- the first root that is no prefix
pub record IsBad (roots : List RootPrefix) (i : ℕ) : Type 0 where
  pub within : i < length roots
  pub bad : (d : RootPrefix) → ¬ IsValid (block_of (slice_index_or roots i d))
  pub before : AllValid roots i

-- the first root of the first n that overlaps p
pub record IsHit (roots : List RootPrefix) (p : Prefix) (n i : ℕ) : Type 0 where
  pub within : i < n
  pub meets : (d : RootPrefix) → Overlap (block_of (slice_index_or roots i d)) p
  pub before : RootsApart roots p i

-- the least second root that overlaps an earlier one, and the least such first
pub record IsClash (roots : List RootPrefix) (c : Clash) : Type 0 where
  pub within : c.second < length roots
  pub before : AllApart roots c.second
  pub hit : (d : RootPrefix) → IsHit roots (block_of (slice_index_or roots c.second d)) c.second c.first
