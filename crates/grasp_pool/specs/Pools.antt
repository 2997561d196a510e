-- What is true of every pool, and when its calls answer what.
use Rattle.std.specs.Prelude.{◌≡◌, ℕ, ◌+◌, ◌-◌, ◌<◌, ◌≤◌, ◌⊎◌, List, ◌++◌, Contains, length}
use Rattle.grasp_types.specs.Prefix.{AddressBlock as Prefix, span_of, Overlap}
use Rattle.grasp_pool.specs.Spans.{Apart, IsValid}
use Rattle.grasp_pool.specs.Canonical.{IsRising, IsTidy, IsLowestFree, HasNoFree}
use Rattle.grasp_pool.specs.Holdings.{Holding, IsFree, IsListed, Reserves}

-- what is true of every pool
pub record IsPool (h : Holding) : Type 0 where
  -- the free list has the maximal free prefixes, and the three lists are in rising order
  pub free : IsTidy h.free
  pub reserved : IsRising h.reserved
  pub doubtful : IsRising h.doubtful
  -- what is reserved or doubtful is a prefix
  pub valid : (q : Prefix) → IsListed h q → IsValid q
  -- a reserved or doubtful prefix overlaps nothing that is free and no other such prefix, and is not both
  pub held : (q : Prefix) (a : ℕ) → IsListed h q → span_of q a → ¬ IsFree h a
  pub apart : (p q : Prefix) → ¬ (p ≡ q) → IsListed h p → IsListed h q → Apart p q
  pub once : (q : Prefix) → Contains h.reserved q → ¬ Contains h.doubtful q
  -- the pool has at most 4096 entries
  pub few : (length h.free + length h.reserved) + length h.doubtful ≤ 4096

-- Inside: a pool as it is kept: each list has memory for 4096 entries
pub record IsStored (h : Holding) (r d : ℕ) : Type 0 where
  pub pool : IsPool h
  pub reserved_memory : 4096 ≤ r
  pub doubtful_memory : 4096 ≤ d

-- how many entries may still be added
abbrev pub room_of : Holding → ℕ
room_of h = 4096 - ((length h.free + length h.reserved) + length h.doubtful)

-- when `take` answers p: there is room for the rest, and p is the lowest, which is reserved
pub record IsTaken (old new : Holding) (n : ℕ) (p : Prefix) : Type 0 where
  pub room : 128 ≤ room_of old
  pub least : IsLowestFree old.free n p
  pub reserves : Reserves old new p

-- when `take` answers none: there is too little room, or nothing of this length is all free
pub record IsNotTaken (old new : Holding) (n : ℕ) : Type 0 where
  pub same : new ≡ old
  pub why : (room_of old < 128) ⊎ HasNoFree old.free n

-- when `take_at` answers true: there is room for the rest, and p, whose addresses were all free, is reserved
pub record IsTakenAt (old new : Holding) (p : Prefix) : Type 0 where
  pub room : 128 ≤ room_of old
  pub reserves : Reserves old new p

-- when `take_at` answers false: there is too little room, or an address of p isn't free
pub record IsNotTakenAt (old new : Holding) (p : Prefix) : Type 0 where
  pub same : new ≡ old
  pub why : (room_of old < 128) ⊎ ((a : ℕ) × span_of p a × (¬ IsFree old a))

-- all that a pool has: its maximal free, its reserved and its doubtful prefixes
abbrev pub entries : Holding → List Prefix
entries h = (h.free ++ h.reserved) ++ h.doubtful

-- k is the entry of least address, then of least length, among those that overlap p
pub record IsFirstOverlap (h : Holding) (p k : Prefix) : Type 0 where
  pub has : Contains (entries h) k
  pub meets : Overlap k p
  pub least : (q : Prefix) → Contains (entries h) q → Overlap q p → (k.address < q.address) ⊎ ((k.address ≡ q.address) × (k.length ≤ q.length))
