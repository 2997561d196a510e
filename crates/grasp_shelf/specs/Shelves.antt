-- Where a node keeps its pool, and what is asked of its store around the calls of the agent of prefixes.
use Rattle.std.specs.Prelude.{◌≡◌, ◌≤◌, ℕ, Bool, true, false, List, [], Option, None, Some}
use Rattle.grasp_disk.specs.Calls.{DiskCall, DiskLog, after_made, bytes_of}
use Rattle.grasp_agent.specs.States.{AgentState}
use Rattle.grasp_pool.specs.declared.image.PoolImage.{PoolImage}
use Rattle.grasp_store.specs.Current.{image_on}
use Rattle.grasp_store.specs.Images.{image_behind}
use Rattle.grasp_store.specs.Keeping.{KeeperState, Keeps, GoesOn, IsKeepFault, saves_before, saves_behind, kept_before as image_before}
use Rattle.grasp_store.specs.Saving.{FailsIn, IsOldOrNew, before_calls, behind_calls}
use Rattle.grasp_store.specs.declared.fault.KeepFault.{KeepFault}
use Rattle.grasp_store.specs.declared.fault.KeepFault.TheVariants as keep_fault
use Rattle.grasp_shelf.specs.declared.fault.ShelfFault.{ShelfFault}

-- a shelf: its store, where that isn't open, the keeper of the open one, and why it wasn't opened
pub record ShelfState (B : Type 0) : Type 0 where
  pub store : Option B
  pub keeper : Option (KeeperState B)
  pub fault : Option ShelfFault

-- its store isn't open, and stands for the log
abbrev pub ClosedStands : {B : Type 0} → (B → DiskLog → Type 0) → Option B → DiskLog → Type 0
ClosedStands stands None log = ⊥
ClosedStands stands (Some store) log = stands store log

abbrev pub IsClosed : {B : Type 0} → (B → DiskLog → Type 0) → ShelfState B → DiskLog → Type 0
IsClosed stands shelf log = ClosedStands stands shelf.store log

-- its keeper keeps the disk of the log, whose image is never that of roots
abbrev pub OpenKeeps : {B : Type 0} → (B → DiskLog → Type 0) → Option (KeeperState B) → DiskLog → Type 0
OpenKeeps stands None log = ⊥
OpenKeeps stands (Some keeper) log = Keeps stands [] keeper log

abbrev pub KeepsShelf : {B : Type 0} → (B → DiskLog → Type 0) → ShelfState B → DiskLog → Type 0
KeepsShelf stands shelf log = OpenKeeps stands shelf.keeper log

-- the disk once it was asked before the next call of an agent
abbrev pub kept_before : AgentState → DiskLog → DiskLog
kept_before s log = after_made log (before_calls (bytes_of log) s)

-- the disk once it was asked behind a call of an agent, which is so then
abbrev pub kept_behind : AgentState → DiskLog → DiskLog
kept_behind s log = after_made log (behind_calls [] (bytes_of log) s)

-- ---- faults

-- how often something failed at its store
abbrev pub store_faults : {B : Type 0} → (B → ℕ) → Option B → ℕ
store_faults faults None = 0
store_faults faults (Some store) = faults store

abbrev pub faults_with : {B : Type 0} → (B → ℕ) → Option B → Option (KeeperState B) → ℕ
faults_with faults store None = store_faults faults store
faults_with faults store (Some keeper) = faults keeper.disk

abbrev pub faults_of : {B : Type 0} → (B → ℕ) → ShelfState B → ℕ
faults_of faults shelf = faults_with faults shelf.store shelf.keeper

-- its store: that of the keeper, or the one that isn't open
abbrev pub store_with : {B : Type 0} → Option B → Option (KeeperState B) → Option B
store_with store None = store
store_with store (Some keeper) = Some keeper.disk

abbrev pub store_of : {B : Type 0} → ShelfState B → Option B
store_of shelf = store_with shelf.store shelf.keeper

-- its keeper has answered a fault
abbrev pub has_stopped : {B : Type 0} → Option (KeeperState B) → Bool
has_stopped None = false
has_stopped (Some keeper) = keeper.faulty

abbrev pub is_stopped : {B : Type 0} → ShelfState B → Bool
is_stopped shelf = has_stopped shelf.keeper

-- ---- what is kept

-- whatever disk the shelf kept before, afterwards it keeps what this makes of it. Where no store is open, nothing changes
pub record KeptOn {B : Type 0} (stands : B → DiskLog → Type 0) (faults : B → ℕ) (old : ShelfState B) (next : DiskLog → DiskLog) (new : ShelfState B) : Type 0 where
  pub keeps : (log : DiskLog) → KeepsShelf stands old log → KeepsShelf stands new (next log)
  pub never_falls : faults_of faults old ≤ faults_of faults new
  pub forgets : old.keeper ≡ None → new ≡ old
  pub stopped : is_stopped new ≡ is_stopped old

-- ---- what isn't kept

-- what a store is asked: before the next call of an agent, or behind a call
pub data Asking : Type 0 where
  ahead : AgentState → Asking
  behind : AgentState → Asking

-- whether something is saved then, where this image is current
abbrev pub saves_for : Asking → PoolImage → Bool
saves_for (ahead s) image = saves_before s
saves_for (behind s) image = saves_behind image s

-- the calls of a disk with these bytes that it takes
abbrev pub calls_for : Asking → List ℕ → List DiskCall
calls_for (ahead s) bytes = before_calls bytes s
calls_for (behind s) bytes = behind_calls [] bytes s

-- the image that is current afterwards, where this one was
abbrev pub image_for : Asking → PoolImage → PoolImage
image_for (ahead s) image = image_before image s
image_for (behind s) image = image_behind s

-- of the calls of the disk one failed, and none was made after it. A crash at any moment of those that were made leaves what was current, or what was to be saved
abbrev pub BreaksOff : {B : Type 0} → (B → DiskLog → Type 0) → KeeperState B → Asking → KeeperState B → Type 0
BreaksOff stands old asking new = (log : DiskLog) → Keeps stands [] old log
    → FailsIn (stands new.disk) log (calls_for asking (bytes_of log)) (IsOldOrNew (bytes_of log) (image_for asking (image_on [] (bytes_of log))))

-- the keeper of an open store was asked, and keeps nothing more, for this cause. But for a fault of the disk this isn't touched
pub record FailsAtKeeper {B : Type 0} (stands : B → DiskLog → Type 0) (faults : B → ℕ) (old : KeeperState B) (asking : Asking) (fault : KeepFault)
    (new : KeeperState B) : Type 0 where
  pub cause : IsKeepFault faults old new (saves_for asking old.image) fault
  pub leaves : fault ≡ keep_fault.DiskFault → BreaksOff stands old asking new
  pub stops : new.faulty ≡ true

-- where no store is open nothing fails
abbrev pub FailsBetween : {B : Type 0} → (B → DiskLog → Type 0) → (B → ℕ) → Option (KeeperState B) → Asking → KeepFault → Option (KeeperState B) → Type 0
FailsBetween stands faults None asking fault new = ⊥
FailsBetween stands faults (Some old) asking fault None = ⊥
FailsBetween stands faults (Some old) asking fault (Some new) = FailsAtKeeper stands faults old asking fault new

-- the shelf was asked, and fails for this cause
abbrev pub FailsToKeep : {B : Type 0} → (B → DiskLog → Type 0) → (B → ℕ) → ShelfState B → Asking → KeepFault → ShelfState B → Type 0
FailsToKeep stands faults old asking fault new = FailsBetween stands faults old.keeper asking fault new.keeper

-- no cause to fail: its keeper has answered no fault, and the number of saves can rise where something is to be saved
abbrev pub MayKeep : {B : Type 0} → Option (KeeperState B) → Asking → Type 0
MayKeep None asking = Unit {0}
MayKeep (Some keeper) asking = GoesOn keeper (saves_for asking keeper.image)
