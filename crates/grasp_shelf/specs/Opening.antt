-- The opening of a node's store.
use Rattle.std.specs.Prelude.{◌≡◌, ℕ, true, is_some, List, [], Option, None, Some}
use Rattle.grasp_disk.specs.Calls.{DiskLog, state_of}
use Rattle.grasp_agent.specs.States.{AgentState}
use Rattle.grasp_store.specs.Current.{IsSound}
use Rattle.grasp_disk.specs.Crashes.{Makes, MayBecome}
use Rattle.grasp_store.specs.Keeping.{KeeperState, Opens, IsBadImage, IsBlank}
use Rattle.grasp_store.specs.Saving.{FailsIn, open_calls}
use Rattle.grasp_store.specs.declared.fault.OpenFault.{OpenFault}
use Rattle.grasp_store.specs.declared.fault.OpenFault.TheVariants as open_fault
use Rattle.grasp_shelf.specs.Shelves.{ShelfState}
use Rattle.grasp_shelf.specs.declared.fault.ShelfFault.{ShelfFault}
use Rattle.grasp_shelf.specs.declared.fault.ShelfFault.TheVariants as fault

-- the keeper opened the disk of the log, in which an image was saved, and the agent's pool is that of this image
abbrev pub OpensSaved : {B : Type 0} → (B → DiskLog → Type 0) → Option (KeeperState B) → AgentState → DiskLog → Type 0
OpensSaved stands None agent log = ⊥
OpensSaved stands (Some keeper) agent log = Opens stands [] keeper agent log × (is_some keeper.current ≡ true)

-- the shelf's store was opened so
abbrev pub OpensShelf : {B : Type 0} → (B → DiskLog → Type 0) → ShelfState B → AgentState → DiskLog → Type 0
OpensShelf stands shelf agent log = OpensSaved stands shelf.keeper agent log

-- why a disk with these bytes isn't opened as a store, where its calls succeed: exactly for these causes
abbrev pub IsShelfFault : List ℕ → ShelfFault → Type 0
IsShelfFault bytes fault.Unopened = Unit {0}
IsShelfFault bytes fault.DiskFault = Unit {0}
IsShelfFault bytes (fault.BadImage slot) = IsBadImage bytes slot
IsShelfFault bytes fault.Empty = IsBlank bytes
IsShelfFault bytes fault.OutOfMemory = IsSound bytes

-- what was asked of a store that isn't opened for this cause. A crash leaves what it might have left before
abbrev pub LeavesClosed : (DiskLog → Type 0) → DiskLog → ShelfFault → Type 0
LeavesClosed Stands log fault.Unopened = Stands log
LeavesClosed Stands log fault.DiskFault = FailsIn Stands log open_calls (MayBecome (state_of log))
LeavesClosed Stands log (fault.BadImage slot) = Makes Stands log open_calls (MayBecome (state_of log))
LeavesClosed Stands log fault.Empty = Makes Stands log open_calls (MayBecome (state_of log))
LeavesClosed Stands log fault.OutOfMemory = Makes Stands log open_calls (MayBecome (state_of log))

-- a shelf whose store was never opened
pub record IsUnused {B : Type 0} (shelf : ShelfState B) : Type 0 where
  pub has : is_some shelf.store ≡ true
  pub closed : shelf.keeper ≡ None

-- the fault is one of the store's calls
abbrev pub IsOfCalls : ShelfFault → Type 0
IsOfCalls fault.Unopened = Unit {0}
IsOfCalls fault.DiskFault = Unit {0}
IsOfCalls (fault.BadImage slot) = ⊥
IsOfCalls fault.Empty = ⊥
IsOfCalls fault.OutOfMemory = ⊥

-- Inside: why a disk isn't opened; without roots it is empty where these open no pool
abbrev pub fault_of : OpenFault → ShelfFault
fault_of open_fault.DiskFault = fault.DiskFault
fault_of (open_fault.BadImage slot) = fault.BadImage slot
fault_of (open_fault.Roots why) = fault.Empty
fault_of open_fault.OutOfMemory = fault.OutOfMemory
