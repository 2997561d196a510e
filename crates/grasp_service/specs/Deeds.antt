-- What the agents of a node do in a round: each is told what is due, and makes a call where one is due.
use Rattle.std.specs.Prelude.{◌≡◌, ℕ, true, false, List, [], ◌∷◌, length}
use Rattle.grasp_core.specs.declared.node_core.NodeCore.{NodeCore}
use Rattle.grasp_crew.specs.Servants.{nudge_of, nudged, is_due, call_of, after_call}
use Rattle.grasp_crew.specs.declared.servant.Servant.{Servant}
use Rattle.grasp_disk.specs.Calls.{DiskLog}
use Rattle.grasp_shared.specs.Adding.{Adds}
use Rattle.grasp_shared.specs.Calls.{GoesOn, answered}
use Rattle.grasp_shared.specs.History.{History}
use Rattle.grasp_shelf.specs.Shelves.{ShelfState, KeptOn}
use Rattle.grasp_types.specs.declared.reply.Reply.{Reply}
use Rattle.grasp_service_visits.specs.Calling.{is_starved}
use Rattle.grasp_service_visits.specs.Each.{each_after, each_adds, Each}
use Rattle.grasp_service.specs.Keeping.{kept_ahead, kept_after, each_then}
use Rattle.grasp_service.specs.Openings.{agent_entry}

-- an agent rests, or it makes its call, which is answered so
pub data Deed : Type 0 where
  rests : Deed
  calls : Reply → Deed

-- the agent once it was told what is due at this reading
abbrev pub told_at : ℕ → Servant → Servant
told_at now m = nudged m (nudge_of now m)

-- it rests exactly where no call is due
abbrev pub IsDeed : ℕ → Servant → Deed → Type 0
IsDeed now m rests = is_due (told_at now m) ≡ false
IsDeed now m (calls r) = (is_due (told_at now m) ≡ true) × (is_starved r ≡ false)

-- the agent after it
abbrev pub after_deed : ℕ → Servant → Deed → Servant
after_deed now m rests = told_at now m
after_deed now m (calls r) = after_call now (told_at now m) r

-- the call that it makes as this caller, with the reading 0
abbrev pub deed_calls : ℕ → ℕ → Servant → Deed → History
deed_calls now caller m rests = []
deed_calls now caller m (calls r) = agent_entry caller (told_at now m) r ∷ []

-- the disk once it was asked around the call
abbrev pub kept_deed : ℕ → Servant → Deed → DiskLog → DiskLog
kept_deed now m rests = λ log. log
kept_deed now m (calls r) = λ log. kept_after (after_call now (told_at now m) r) (kept_ahead (told_at now m) log)

-- the disk after the deeds of all
abbrev pub kept_deeds : ℕ → List Servant → List Deed → DiskLog → DiskLog
kept_deeds now crew deeds log = each_then (kept_deed now) crew deeds log

-- the node went on by it
abbrev pub DeedGoes : NodeCore → ℕ → Servant → Deed → NodeCore → Type 0
DeedGoes old now m rests new = new ≡ old
DeedGoes old now m (calls r) new = GoesOn old (answered 0 (call_of (told_at now m)) r) new

-- an agent did what was due, and the store was asked around its call
pub record Acts {B : Type 0} (stands : B → DiskLog → Type 0) (faults : B → ℕ) (old : NodeCore) (m : Servant) (a : ShelfState B) (now : ℕ) (new : NodeCore)
    (n : Servant) (b : ShelfState B) : Type 0 where
  pub deed : Deed
  pub is : IsDeed now m deed
  pub went : DeedGoes old now m deed new
  pub agent : n ≡ after_deed now m deed
  pub kept : KeptOn stands faults a (kept_deed now m deed) b

-- Inside: so many agents did
pub record ActsSome {B : Type 0} (stands : B → DiskLog → Type 0) (faults : B → ℕ) (count : ℕ) (old : NodeCore) (crew : List Servant) (a : ShelfState B)
    (now : ℕ) (new : NodeCore) (others : List Servant) (b : ShelfState B) : Type 0 where
  pub deeds : List Deed
  pub count_is : length deeds ≡ count
  pub each : Each (IsDeed now) crew deeds
  pub adds : Adds old (each_adds (deed_calls now) 1 crew deeds) new
  pub crew_is : others ≡ each_after (after_deed now) crew deeds
  pub kept : KeptOn stands faults a (kept_deeds now crew deeds) b

-- each agent did, in order
pub record ActsAll {B : Type 0} (stands : B → DiskLog → Type 0) (faults : B → ℕ) (old : NodeCore) (crew : List Servant) (a : ShelfState B) (now : ℕ)
    (new : NodeCore) (others : List Servant) (b : ShelfState B) : Type 0 where
  pub deeds : List Deed
  pub count : length deeds ≡ length crew
  pub each : Each (IsDeed now) crew deeds
  pub adds : Adds old (each_adds (deed_calls now) 1 crew deeds) new
  pub crew_is : others ≡ each_after (after_deed now) crew deeds
  pub kept : KeptOn stands faults a (kept_deeds now crew deeds) b
