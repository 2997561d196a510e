-- Why a round is cut short, and what stands in its store then.
use Rattle.std.specs.Prelude.{◌≡◌, ℕ, true, false, List, length, Option, None, Some, slice_get}
use Rattle.grasp_core.specs.declared.node_core.NodeCore.{NodeCore}
use Rattle.grasp_crew.specs.Servants.{is_due, after_call}
use Rattle.grasp_crew.specs.declared.servant.Servant.{Servant}
use Rattle.grasp_disk.specs.Calls.{DiskLog}
use Rattle.grasp_shelf.specs.Shelves.{ShelfState, Asking, KeptOn, FailsToKeep}
use Rattle.grasp_store.specs.declared.fault.KeepFault.{KeepFault}
use Rattle.grasp_types.specs.declared.reply.Reply.{Reply}
use Rattle.grasp_service_visits.specs.Calling.{GoesSome, is_starved}
use Rattle.grasp_service_visits.specs.Each.{Each}
use Rattle.grasp_service.specs.Deeds.{Deed, told_at, IsDeed, kept_deeds}
use Rattle.grasp_service.specs.Keeping.{ahead_of, behind_of, kept_ahead}
use Rattle.grasp_service.specs.declared.cut.Cut.{Cut}
use Rattle.grasp_service.specs.declared.cut.Cut.TheVariants as cut

-- the store was asked this, and has a fault; where it is asked nothing it has none
abbrev pub FailsAsked : {B : Type 0} → (B → DiskLog → Type 0) → (B → ℕ) → ShelfState B → Option Asking → KeepFault → ShelfState B → Type 0
FailsAsked stands faults old None fault new = ⊥
FailsAsked stands faults old (Some asking) fault new = FailsToKeep stands faults old asking fault new

-- memory was wanted, or the store was asked this, and has a fault
abbrev pub IsCutAsking : {B : Type 0} → (B → DiskLog → Type 0) → (B → ℕ) → ShelfState B → Option Asking → Cut → ShelfState B → Type 0
IsCutAsking stands faults old asking cut.OutOfMemory new = Unit {0}
IsCutAsking stands faults old asking (cut.Store fault) new = FailsAsked stands faults old asking fault new

-- the store has a fault around the call of an agent, before which it is so: before the call, or behind it, where the agent took this reply
pub data FailsAround {B : Type 0} (stands : B → DiskLog → Type 0) (faults : B → ℕ) (now : ℕ) (m : Servant) (old : ShelfState B) (fault : KeepFault)
    (new : ShelfState B) : Type 0 where
  before_call : FailsAsked stands faults old (ahead_of m) fault new → FailsAround stands faults now m old fault new
  behind_call : (r : Reply) (middle : ShelfState B) → is_starved r ≡ false → KeptOn stands faults old (kept_ahead m) middle
      → FailsAsked stands faults middle (behind_of (after_call now m r)) fault new → FailsAround stands faults now m old fault new

-- memory was wanted, or the store has a fault around the call of an agent, where one is due
abbrev pub IsCutAround : {B : Type 0} → (B → DiskLog → Type 0) → (B → ℕ) → ℕ → Servant → ShelfState B → Cut → ShelfState B → Type 0
IsCutAround stands faults now m old cut.OutOfMemory new = Unit {0}
IsCutAround stands faults now m old (cut.Store fault) new = (is_due m ≡ true) × FailsAround stands faults now m old fault new

-- the agents before one did what was due, and then the store has a fault around the call of that one
pub record FailsAmong {B : Type 0} (stands : B → DiskLog → Type 0) (faults : B → ℕ) (now : ℕ) (crew : List Servant) (old : ShelfState B)
    (fault : KeepFault) (new : ShelfState B) : Type 0 where
  pub deeds : List Deed
  pub each : Each (IsDeed now) crew deeds
  pub agent : Servant
  pub at : slice_get crew (length deeds) ≡ Some agent
  pub due : is_due (told_at now agent) ≡ true
  pub middle : ShelfState B
  pub kept : KeptOn stands faults old (kept_deeds now crew deeds) middle
  pub fails : FailsAround stands faults now (told_at now agent) middle fault new

-- why a round was cut short in which these agents are told what is due: memory was wanted, or the store has a fault around the call of one of them
abbrev pub IsCut : {B : Type 0} → (B → DiskLog → Type 0) → (B → ℕ) → ℕ → List Servant → ShelfState B → Cut → ShelfState B → Type 0
IsCut stands faults now crew old cut.OutOfMemory new = Unit {0}
IsCut stands faults now crew old (cut.Store fault) new = FailsAmong stands faults now crew old fault new

-- Inside: the node made some calls, and then it was cut short around the call of an agent
pub record CutsAround {B : Type 0} (stands : B → DiskLog → Type 0) (faults : B → ℕ) (old : NodeCore) (now : ℕ) (m : Servant) (a : ShelfState B) (why : Cut)
    (new : NodeCore) (b : ShelfState B) : Type 0 where
  pub some : GoesSome old new
  pub is : IsCutAround stands faults now m a why b

-- the node made some calls, and then the round was cut short
pub record CutsOff {B : Type 0} (stands : B → DiskLog → Type 0) (faults : B → ℕ) (old : NodeCore) (now : ℕ) (crew : List Servant) (a : ShelfState B)
    (why : Cut) (new : NodeCore) (b : ShelfState B) : Type 0 where
  pub some : GoesSome old new
  pub is : IsCut stands faults now crew a why b
