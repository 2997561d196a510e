-- A keeper, what it remembers of its disk, and what its calls do.
use Rattle.std.specs.Prelude.{◌≡◌, ◌⊎◌, ℕ, ◌-◌, ◌<◌, ◌^◌, Bool, true, false, IsTrue, is_some, not, List, Option, None, Some}
use Rattle.grasp_io.specs.Faults.{Rose}
use Rattle.grasp_disk.specs.Calls.{DiskCall, DiskLog, after_made, bytes_of, state_of}
use Rattle.grasp_disk.specs.Crashes.{AtEachMoment, IsSettled, Makes, MayBecome}
use Rattle.grasp_types.specs.Prefix.{AddressBlock as Prefix}
use Rattle.grasp_pool.specs.Answers.{IsRootFault}
use Rattle.grasp_pool.specs.Functions.{pool_of_image}
use Rattle.grasp_pool.specs.declared.fault.PoolFault.TheVariants as pool_fault
use Rattle.grasp_pool.specs.declared.image.PoolImage.{PoolImage}
use Rattle.grasp_pool.specs.declared.roots.RootPrefix.{RootPrefix}
use Rattle.grasp_agent.specs.States.{AgentState, accepted_by, first_agent}
use Rattle.grasp_store.specs.Current.{IsSound, current_in, current_place, image_on, number_of}
use Rattle.grasp_store.specs.Images.{IsGoodImage, image_of, with_doubt, is_same_image}
use Rattle.grasp_store.specs.Saving.{FailsIn, IsOldOrNew, next_place, open_calls}
use Rattle.grasp_store.specs.Slots.{Saved, slot_in}
use Rattle.grasp_store.specs.declared.fault.KeepFault.{KeepFault}
use Rattle.grasp_store.specs.declared.fault.KeepFault.TheVariants as keep_fault
use Rattle.grasp_store.specs.declared.fault.OpenFault.{OpenFault}
use Rattle.grasp_store.specs.declared.fault.OpenFault.TheVariants as open_fault
use Rattle.grasp_store.specs.declared.place.Place.{Place}
use Rattle.grasp_store.specs.declared.place.Place.TheVariants.{First, Second}

-- a keeper: its disk, the slot that is current, whether the slot that is filled next is open, the current number and image, and whether it has answered a fault
pub record KeeperState (D : Type 0) : Type 0 where
  pub disk : D
  pub current : Option Place
  pub behind : Bool
  pub number : ℕ
  pub image : PoolImage
  pub faulty : Bool

-- what it remembers is so of a disk with these bytes
pub record Remembers {D : Type 0} (roots : List RootPrefix) (keeper : KeeperState D) (bytes : List ℕ) : Type 0 where
  pub current : keeper.current ≡ current_place bytes
  pub behind : keeper.behind ≡ is_some (slot_in bytes (next_place (current_place bytes)))
  pub number : keeper.number ≡ number_of (current_in bytes)
  pub image : keeper.image ≡ image_on roots bytes

-- a keeper that has answered no fault: its disk stands for the log, has all that was written synced, and can be opened
pub record Keeps {D : Type 0} (Stands : D → DiskLog → Type 0) (roots : List RootPrefix) (keeper : KeeperState D) (log : DiskLog) : Type 0 where
  pub going : keeper.faulty ≡ false
  pub stands : Stands keeper.disk log
  pub settled : IsSettled (state_of log)
  pub sound : IsSound (bytes_of log)
  pub remembers : Remembers roots keeper (bytes_of log)

-- ---- saves

-- the keeper made these calls, and then has this image. A crash at any moment of them leaves what was current, or this image with the next number
pub record Saves {D : Type 0} (Stands : D → DiskLog → Type 0) (roots : List RootPrefix) (keeper : KeeperState D) (log : DiskLog)
    (calls : List DiskCall) (image : PoolImage) : Type 0 where
  pub keeps : Keeps Stands roots keeper (after_made log calls)
  pub has : image_on roots (bytes_of (after_made log calls)) ≡ image
  pub moments : AtEachMoment (state_of log) calls (IsOldOrNew (bytes_of log) image)

-- before a call that accepts no prefix nothing is saved
abbrev pub image_kept : PoolImage → PoolImage → Option Prefix → PoolImage
image_kept current image None = current
image_kept current image (Some p) = with_doubt p image

-- the image that is current before the next call of an agent, where this one was
abbrev pub kept_before : PoolImage → AgentState → PoolImage
kept_before current s = image_kept current (image_of s.pool) (accepted_by s.act)

-- whether something is saved before the next call of an agent
abbrev pub saves_before : AgentState → Bool
saves_before s = is_some (accepted_by s.act)

-- whether something is saved behind a call of an agent, where this image is current
abbrev pub saves_behind : PoolImage → AgentState → Bool
saves_behind current s = not (is_same_image current (image_of s.pool))

-- a keeper that has answered no fault, and whose number can rise where it is to save
pub record GoesOn {D : Type 0} (old : KeeperState D) (saves : Bool) : Type 0 where
  pub going : old.faulty ≡ false
  pub number : IsTrue saves → old.number < 2 ^ 64 - 1

-- why a call of a keeper fails. Only a fault of the disk comes after a call of it
abbrev pub IsKeepFault : {D : Type 0} → (D → ℕ) → KeeperState D → KeeperState D → Bool → KeepFault → Type 0
IsKeepFault faults old new saves keep_fault.DiskFault = GoesOn old saves × IsTrue saves × Rose (faults old.disk) (faults new.disk)
IsKeepFault faults old new saves keep_fault.Spent = (old.faulty ≡ false) × IsTrue saves × (old.number ≡ 2 ^ 64 - 1) × (new.disk ≡ old.disk)
IsKeepFault faults old new saves keep_fault.Stopped = (old.faulty ≡ true) × (new.disk ≡ old.disk)

-- ---- openings

-- the keeper opened the disk: it has its image, and an agent whose pool is that of the image. What a crash leaves in between, it might have left before
pub record Opens {D : Type 0} (Stands : D → DiskLog → Type 0) (roots : List RootPrefix) (keeper : KeeperState D)
    (agent : AgentState) (log : DiskLog) : Type 0 where
  pub keeps : Keeps Stands roots keeper (after_made log open_calls)
  pub is : agent ≡ first_agent (pool_of_image (image_on roots (bytes_of log)))
  pub moments : AtEachMoment (state_of log) open_calls (MayBecome (state_of log))

-- a slot is open, and no pool can have what it holds
pub record IsBadSlot (bytes : List ℕ) (place : Place) : Type 0 where
  pub saved : Saved
  pub holds : slot_in bytes place ≡ Some saved
  pub bad : ¬ IsGoodImage saved.image

-- both slots are open, with one number
pub record HasOneNumber (bytes : List ℕ) : Type 0 where
  pub first : Saved
  pub second : Saved
  pub holds_first : slot_in bytes First ≡ Some first
  pub holds_second : slot_in bytes Second ≡ Some second
  pub same : first.number ≡ second.number

-- the first slot that is bad, the second one also where both are open with one number
abbrev pub IsBadImage : List ℕ → ℕ → Type 0
IsBadImage bytes slot = ((slot ≡ 0) × IsBadSlot bytes First) ⊎ ((slot ≡ 1) × (¬ IsBadSlot bytes First) × (IsBadSlot bytes Second ⊎ HasOneNumber bytes))

-- no slot is open
abbrev pub IsBlank : List ℕ → Type 0
IsBlank bytes = (slot_in bytes First ≡ None) × (slot_in bytes Second ≡ None)

-- why a disk with these bytes isn't opened, where its calls succeed: the first of these that holds
abbrev pub IsOpenFault : List RootPrefix → List ℕ → OpenFault → Type 0
IsOpenFault roots bytes open_fault.DiskFault = ⊥
IsOpenFault roots bytes (open_fault.BadImage slot) = IsBadImage bytes slot
IsOpenFault roots bytes (open_fault.Roots fault) = IsBlank bytes × (¬ (fault ≡ pool_fault.OutOfMemory)) × IsRootFault roots fault
IsOpenFault roots bytes open_fault.OutOfMemory = IsSound bytes × (IsBlank bytes → IsRootFault roots pool_fault.OutOfMemory)

-- the disk is as it was, all that was written being synced, and isn't opened for this cause
pub record Refuses (Stands : DiskLog → Type 0) (roots : List RootPrefix) (log : DiskLog) (fault : OpenFault) : Type 0 where
  pub cause : IsOpenFault roots (bytes_of log) fault
  pub makes : Makes Stands log open_calls (MayBecome (state_of log))

-- why the disk isn't opened, and what was asked of it
abbrev pub FailsToOpen : (DiskLog → Type 0) → List RootPrefix → DiskLog → OpenFault → Type 0
FailsToOpen Stands roots log open_fault.DiskFault = FailsIn Stands log open_calls (MayBecome (state_of log))
FailsToOpen Stands roots log (open_fault.BadImage slot) = Refuses Stands roots log (open_fault.BadImage slot)
FailsToOpen Stands roots log (open_fault.Roots fault) = Refuses Stands roots log (open_fault.Roots fault)
FailsToOpen Stands roots log open_fault.OutOfMemory = Refuses Stands roots log open_fault.OutOfMemory
