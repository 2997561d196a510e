-- What a crash may leave of a disk, and at each moment of calls.
use Rattle.std.specs.Prelude.{◌≡◌, ◌⊎◌, ℕ, ◌+◌, ◌<◌, ◌≤◌, List, [], ◌∷◌, length, slice_index_or, Contains}
use Rattle.grasp_disk.specs.Calls.{DiskCall, DiskLog, DiskState, Range, after_calls, after_made, state_of}

-- the place lies before the range or behind it
abbrev pub IsOutside : ℕ → Range → Type 0
IsOutside i r = (i < r.at) ⊎ (r.at + r.count ≤ i)

-- a crash may leave this content: any bytes where something was written since the last sync that succeeded, and everywhere else what a read gives
pub record MayBecome (s : DiskState) (content : List ℕ) : Type 0 where
  pub size : length content ≡ length s.bytes
  pub rest : (i d : ℕ) → ((r : Range) → Contains s.loose r → IsOutside i r) → slice_index_or content i d ≡ slice_index_or s.bytes i d

-- each content that a crash may leave has the property
abbrev pub Leaves : DiskState → (List ℕ → Type 0) → Type 0
Leaves s P = (content : List ℕ) → MayBecome s content → P content

-- a crash at any moment of these calls, the newest first, leaves a content with the property: before them, inside each and behind it. Inside a
-- write it leaves what it may leave behind it, and inside a sync or a read what it may leave before it
unfoldable pub AtEachMoment : DiskState → List DiskCall → (List ℕ → Type 0) → Type 0
AtEachMoment s [] P = Leaves s P
AtEachMoment s (call ∷ earlier) P = AtEachMoment s earlier P × Leaves (after_calls (call ∷ earlier) s) P

-- these calls were made since, the newest first, and a crash at any moment of them leaves a content with the property
pub record Makes (Stands : DiskLog → Type 0) (log : DiskLog) (made : List DiskCall) (P : List ℕ → Type 0) : Type 0 where
  pub stands : Stands (after_made log made)
  pub moments : AtEachMoment (state_of log) made P

-- some calls were made since, and a crash at any moment of them leaves a content with the property
pub record Made (Stands : DiskLog → Type 0) (log : DiskLog) (P : List ℕ → Type 0) : Type 0 where
  pub made : List DiskCall
  pub makes : Makes Stands log made P

-- all that was written is synced
abbrev pub IsSettled : DiskState → Type 0
IsSettled s = s.loose ≡ []

-- the two contents have the same bytes but in this range
pub record DifferIn (at count : ℕ) (old new : List ℕ) : Type 0 where
  pub size : length new ≡ length old
  pub rest : (i d : ℕ) → (i < at) ⊎ (at + count ≤ i) → slice_index_or new i d ≡ slice_index_or old i d
