-- The calls of a disk that a keeper makes, the newest first.
use Rattle.std.specs.Prelude.{◌≡◌, ◌⊎◌, ℕ, ◌+◌, ◌-◌, Bool, true, false, is_some, if◌then◌else◌, List, [], ◌∷◌, ◌++◌, drop, length, Option, None, Some}
use Rattle.grasp_disk.specs.Calls.{DiskCall, DiskLog, read, wrote, synced}
use Rattle.grasp_disk.specs.Crashes.{Makes}
use Rattle.grasp_types.specs.Prefix.{AddressBlock as Prefix}
use Rattle.grasp_pool.specs.declared.image.PoolImage.{PoolImage}
use Rattle.grasp_pool.specs.declared.roots.RootPrefix.{RootPrefix}
use Rattle.grasp_agent.specs.States.{AgentState, accepted_by}
use Rattle.grasp_store.specs.Current.{IsSound, current_in, current_place, image_on, number_of}
use Rattle.grasp_store.specs.Images.{image_of, with_doubt, is_same_image}
use Rattle.grasp_store.specs.Slots.{Saved, body_of, gate_of, other, slot_in}
use Rattle.grasp_store.specs.declared.place.Place.{Place}
use Rattle.grasp_store.specs.declared.place.Place.TheVariants.{First}

-- ---- a save

-- these bytes are written and synced
abbrev pub put_calls : ℕ → List ℕ → List DiskCall
put_calls at new = synced true ∷ wrote at new true ∷ []

-- the slot that a save fills: the one that isn't current, and the first where none is
abbrev pub next_place : Option Place → Place
next_place None = First
next_place (Some place) = other place

-- what a save of this image puts there: its number is one higher
abbrev pub next_saved : List ℕ → PoolImage → Saved
next_saved bytes image = record { number = number_of (current_in bytes) + 1; image = image }

-- a slot that is open is closed first
abbrev pub closing_calls : Place → Bool → List DiskCall
closing_calls place false = []
closing_calls place true = put_calls (gate_of place) (0 ∷ [])

-- all behind the gate is written, and then the gate is opened
abbrev pub filling_calls : Place → List ℕ → List DiskCall
filling_calls place body = put_calls (gate_of place) (1 ∷ []) ++ put_calls (gate_of place + 1) body

-- the calls that put this behind the gate of a slot, which is open or isn't
abbrev pub store_calls : Place → Bool → List ℕ → List DiskCall
store_calls place is_open body = filling_calls place body ++ closing_calls place is_open

-- those of a save of this image into this slot, on a disk with these bytes
abbrev pub save_calls_at : Place → List ℕ → PoolImage → List DiskCall
save_calls_at place bytes image = store_calls place (is_some (slot_in bytes place)) (body_of (next_saved bytes image))

-- the calls of a save of this image on a disk with these bytes
unfoldable pub save_calls : List ℕ → PoolImage → List DiskCall
save_calls bytes image = save_calls_at (next_place (current_place bytes)) bytes image

-- what a crash leaves of a disk on which these bytes stood, at any moment of a save of this image: it can be opened, and what is current is what was so, or
-- what the save puts there
pub record IsOldOrNew (bytes : List ℕ) (image : PoolImage) (content : List ℕ) : Type 0 where
  pub sound : IsSound content
  pub current : (current_in content ≡ current_in bytes) ⊎ (current_in content ≡ Some (next_saved bytes image))

-- ---- around a call of an agent

-- before the call that accepts a prefix, the pool's image with that prefix in doubt is saved
abbrev pub accepting_calls : List ℕ → PoolImage → Option Prefix → List DiskCall
accepting_calls bytes image None = []
accepting_calls bytes image (Some p) = save_calls bytes (with_doubt p image)

-- the calls before the next call of an agent
abbrev pub before_calls : List ℕ → AgentState → List DiskCall
before_calls bytes s = accepting_calls bytes (image_of s.pool) (accepted_by s.act)

-- the calls behind a call of an agent: the image of its pool is saved where it isn't current
abbrev pub behind_calls : List RootPrefix → List ℕ → AgentState → List DiskCall
behind_calls roots bytes s = if is_same_image (image_on roots bytes) (image_of s.pool) then [] else save_calls bytes (image_of s.pool)

-- the calls of an opening: a sync, and a read of each slot
abbrev pub open_calls : List DiskCall
open_calls = read true ∷ read true ∷ synced true ∷ []

-- ---- calls that are cut short

-- the first so many of these calls
abbrev pub first_calls : ℕ → List DiskCall → List DiskCall
first_calls n calls = drop (length calls - n) calls

-- the second is the first where it fails
abbrev pub FailsAs : DiskCall → DiskCall → Type 0
FailsAs (read ok) failed = failed ≡ read false
FailsAs (wrote at new ok) failed = (bytes : List ℕ) × (length bytes ≡ length new) × (failed ≡ wrote at bytes false)
FailsAs (synced ok) failed = failed ≡ synced false

-- of these calls, those before one were made, and that one failed
pub record IsCutShort (calls made : List DiskCall) : Type 0 where
  pub later : List DiskCall
  pub call : DiskCall
  pub earlier : List DiskCall
  pub all : calls ≡ later ++ call ∷ earlier
  pub failed : DiskCall
  pub fails : FailsAs call failed
  pub is : made ≡ failed ∷ earlier

-- one of these calls failed, and none was made after it. A crash at any moment of those that were made leaves a content with the property
pub record FailsIn (Stands : DiskLog → Type 0) (log : DiskLog) (calls : List DiskCall) (P : List ℕ → Type 0) : Type 0 where
  pub made : List DiskCall
  pub short : IsCutShort calls made
  pub makes : Makes Stands log made P
