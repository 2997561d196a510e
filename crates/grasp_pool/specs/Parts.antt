-- What the code keeps of its lists, and what each part of a call does to them.
use Rattle.std.specs.Prelude.{◌≡◌, ℕ, ◌+◌, ◌<◌, ◌≤◌, List, Contains, length, slice_index_or, Option, Some, None, MatchOption, if◌then◌else◌, nat_le, nat_lt}
use Rattle.grasp_types.specs.Prefix.{AddressBlock as Prefix, Overlap}
use Rattle.grasp_pool.specs.Spans.{Apart}
use Rattle.grasp_pool.specs.Canonical.{IsRising}

-- Inside: no prefix of the list overlaps p
abbrev pub ApartFrom : List Prefix → Prefix → Type 0
ApartFrom ps p = (q : Prefix) → Contains ps q → Apart q p

-- Inside: the first n of the list begin below the address
abbrev pub BeginBelow : List Prefix → ℕ → ℕ → Type 0
BeginBelow ps n a = (k : ℕ) (d : Prefix) → k < n → (slice_index_or ps k d).address < a

-- Inside: and the others don't
abbrev pub BeginFrom : List Prefix → ℕ → ℕ → Type 0
BeginFrom ps n a = (k : ℕ) (d : Prefix) → n ≤ k → k < length ps → a ≤ (slice_index_or ps k d).address

-- Inside: the entry at this place, where there is one
abbrev pub IsEntryAt : List Prefix → ℕ → Option Prefix → Type 0
IsEntryAt ps i o = MatchOption o (length ps ≤ i) (λ w. (i < length ps) × (w ≡ slice_index_or ps i w))

-- the part of this length at p's first address
abbrev pub first_part : Prefix → ℕ → Prefix
first_part p n = record { address = p.address; length = n }

-- Inside: each of the first n prefixes of the list is longer than this
abbrev pub IsNarrow : List Prefix → ℕ → ℕ → Type 0
IsNarrow ps most n = (k : ℕ) (d : Prefix) → k < n → k < length ps → most < (slice_index_or ps k d).length

-- Inside: the place of the first entry that is no longer than this, or none where all are
abbrev pub IsFirstPlace : List Prefix → ℕ → Option ℕ → Type 0
IsFirstPlace ps most o = MatchOption o (IsNarrow ps most (length ps))
    (λ i. (i < length ps) × ((d : Prefix) → (slice_index_or ps i d).length ≤ most) × IsNarrow ps most i)

-- Inside: w is the first of the list that is no longer than n
pub record IsFirstShort (ps : List Prefix) (n : ℕ) (w : Prefix) : Type 0 where
  pub has : Contains ps w
  pub short : w.length ≤ n
  pub least : (q : Prefix) → Contains ps q → q.length ≤ n → w.address ≤ q.address

-- Inside: the first of the list that is no longer than n, or none where all are
abbrev pub IsFirstOf : List Prefix → ℕ → Option Prefix → Type 0
IsFirstOf ps n o = MatchOption o ((q : Prefix) → Contains ps q → n < q.length) (λ w. IsFirstShort ps n w)

-- Inside: the table has, for each length up to 128, the first of the list that is no longer
pub record IsIndex (ps : List Prefix) (table : List (Option Prefix)) : Type 0 where
  pub size : length table ≡ 129
  pub firsts : (n : ℕ) (d : Option Prefix) → n < 129 → IsFirstOf ps n (slice_index_or table n d)

-- Inside: the list has room for n entries more
abbrev pub HasRoom : List Prefix → ℕ → Type 0
HasRoom ps n = length ps + n ≤ 4096

-- Inside: the list and its table as they are kept, in memory for 4096 entries
pub record IsFreeList (ps : List Prefix) (table : List (Option Prefix)) (capacity : ℕ) : Type 0 where
  pub rising : IsRising ps
  pub index : IsIndex ps table
  pub memory : 4096 ≤ capacity

-- Inside: the first of a list with p more, where o was that of the list
abbrev pub earlier_of : Prefix → Option Prefix → Option Prefix
earlier_of p None = Some p
earlier_of p (Some w) = if nat_lt p.address w.address then Some p else Some w

-- Inside: each place of the table from n on has p where it is earlier, and the others are as they were
pub record IsNoted (old new : List (Option Prefix)) (p : Prefix) (n : ℕ) : Type 0 where
  pub size : length new ≡ length old
  pub below : (k : ℕ) (d : Option Prefix) → k < n → slice_index_or new k d ≡ slice_index_or old k d
  pub from : (k : ℕ) (d : Option Prefix) → n ≤ k → k < length old → slice_index_or new k d ≡ earlier_of p (slice_index_or old k d)

-- Inside: any two of the list's prefixes that aren't the same are apart
abbrev pub ArePairwiseApart : List Prefix → Type 0
ArePairwiseApart ps = (p q : Prefix) → Contains ps p → Contains ps q → ¬ (p ≡ q) → Apart p q

-- Inside: the entry at this place, where there is one and it overlaps p
abbrev pub IsOverlapAt : List Prefix → ℕ → Prefix → Option Prefix → Type 0
IsOverlapAt ps i p x = MatchOption x ((d : Prefix) → i < length ps → ¬ Overlap (slice_index_or ps i d) p)
    (λ q. (i < length ps) × (q ≡ slice_index_or ps i q) × Overlap q p)

-- Inside: k is the list's prefix of least address among those that overlap p
pub record IsFirstIn (ps : List Prefix) (p k : Prefix) : Type 0 where
  pub has : Contains ps k
  pub meets : Overlap k p
  pub least : (q : Prefix) → Contains ps q → Overlap q p → k.address ≤ q.address

-- Inside: the first of the list that overlaps p, or none where none does
abbrev pub IsAnswer : List Prefix → Prefix → Option Prefix → Type 0
IsAnswer ps p x = MatchOption x (ApartFrom ps p) (λ k. IsFirstIn ps p k)

-- Inside: the one of lesser address
abbrev pub lesser_of : Option Prefix → Option Prefix → Option Prefix
lesser_of None y = y
lesser_of (Some p) None = Some p
lesser_of (Some p) (Some q) = if nat_le p.address q.address then Some p else Some q
