-- Inside: a call of an agent on a disk that stops.
use Rattle.std.specs.Prelude.{ℕ, ◌+◌, ◌-◌, ◌<◌, ◌≤◌, ◌^◌, false, List, length, Some, Result, Ok, Err}
use Rattle.grasp_disk.specs.Calls.{DiskCall, DiskLog}
use Rattle.grasp_disk.specs.Memory.{MemStands, all_kept, left_by}
use Rattle.grasp_disk.specs.declared.left.Left.{Left}
use Rattle.grasp_store.specs.Keeping.{Keeps}
use Rattle.grasp_model_network.specs.Events.{Occurs, Overflows, after_event}
use Rattle.grasp_model_network.specs.Plans.{IsNode}
use Rattle.grasp_model_network.specs.Setting.{Setting}
use Rattle.grasp_model_network.specs.Visits.{Choice}
use Rattle.grasp_model_network.specs.declared.event.Event.TheVariants as event
use Rattle.grasp_model_network.specs.declared.report.WorldStop.{WorldStop}
use Rattle.grasp_model_network.specs.declared.report.WorldStop.TheVariants as stop
use Rattle.grasp_model_kept.specs.Crashing.{CallOccurs, CallOverflows, bytes_left, is_cut, made_cut, world_crashed}
use Rattle.grasp_model_kept.specs.Disks.{asked_here, roots_of}
use Rattle.grasp_model_kept.specs.World.{KeptState, disk_of}
use Rattle.grasp_laws_kept.specs.Laws.{KeptStands}
use Rattle.grasp_simulator.specs.WorldStands.{WorldStands}
use Rattle.grasp_simulator.specs.declared.world.World.{World}
use Rattle.grasp_kept.specs.Keepers.{DiskKeeper, DiskLeaves}
use Rattle.grasp_kept.specs.Nodes.{NodeGoes, network_at}

-- the log of a disk on which these bytes stood, and which is to stop after so many calls, once it has made these, the newest first
abbrev pub stopping_log : List ℕ → ℕ → List DiskCall → DiskLog
stopping_log bytes calls made = record { start = all_kept bytes; calls = made; stops = Some calls }

-- ---- the whole

-- the call came out so, where it was made, the code stands for the network at the crash, and a crash of the disk leaves what it should
pub record CallCut (world : World) (keeper : DiskKeeper) (s : Setting) (k : KeptState) (node calls : ℕ) : Type 0 where
  pub choice : Choice
  pub comes : CallOccurs s k.world node choice (is_cut k node calls)
  pub stands : WorldStands world (network_at s (world_crashed s k node calls choice))
  pub leaves : (left : Left) → DiskLeaves keeper.disk left (bytes_left s k node calls left choice)

-- why the call may stop the network
abbrev pub CutMayStop : Setting → KeptState → ℕ → ℕ → WorldStop → Type 0
CutMayStop s k node calls stop.TooMuch = CallOverflows s k.world node (is_cut k node calls)
CutMayStop s k node calls stop.OutOfMemory = Unit {0}

abbrev pub CutAnswers : World → DiskKeeper → Setting → KeptState → ℕ → ℕ → Result (Unit {0}) WorldStop → Type 0
CutAnswers world keeper s k node calls (Ok done) = CallCut world keeper s k node calls
CutAnswers world keeper s k node calls (Err why) = CutMayStop s k node calls why

-- for each network with its disks
abbrev pub CallsUntil : World → World → DiskKeeper → DiskKeeper → ℕ → ℕ → Result (Unit {0}) WorldStop → Type 0
CallsUntil before after old new node calls result = (s : Setting) (k : KeptState) (most : ℕ) → NodeGoes before old s k node most → CutAnswers after new s k node calls result

-- ---- behind the calls that the disk makes before the agent's

-- the log of a disk that is to stop after so many calls, once it was asked before the agent's call
abbrev pub begun_log : KeptState → ℕ → ℕ → DiskLog
begun_log k node calls = stopping_log (disk_of k.disks node) calls (asked_here k node)

-- the disk was asked before the agent's call, and hasn't stopped
pub record CallBegun (world : World) (keeper : DiskKeeper) (s : Setting) (k : KeptState) (node calls most : ℕ) : Type 0 where
  pub stands : WorldStands world (network_at s k.world)
  pub kept : KeptStands s most k
  pub below : most + 2 < 2 ^ 64 - 1
  pub member : IsNode (length s.members) node
  pub keeps : Keeps MemStands (roots_of s node) keeper (begun_log k node calls)
  pub enough : length (asked_here k node) ≤ calls

-- for some network with its disks
pub record HasBegunCall (world : World) (keeper : DiskKeeper) (node calls : ℕ) : Type 0 where
  pub setting : Setting
  pub state : KeptState
  pub most : ℕ
  pub begun : CallBegun world keeper setting state node calls most

-- the call came out so, and a crash of the disk leaves what it should
pub record CallEnded (world : World) (keeper : DiskKeeper) (s : Setting) (k : KeptState) (node calls : ℕ) : Type 0 where
  pub choice : Choice
  pub occurs : Occurs s k.world (event.Agent node false) choice
  pub stands : WorldStands world (network_at s (after_event s k.world (event.Agent node false) choice))
  pub leaves : (left : Left) → DiskLeaves keeper.disk left (left_by left (disk_of k.disks node) (made_cut s k node calls choice false))

-- why it may stop the network
abbrev pub EndMayStop : Setting → KeptState → ℕ → WorldStop → Type 0
EndMayStop s k node stop.TooMuch = Overflows s k.world (event.Agent node false)
EndMayStop s k node stop.OutOfMemory = Unit {0}

abbrev pub EndAnswers : World → DiskKeeper → Setting → KeptState → ℕ → ℕ → Result (Unit {0}) WorldStop → Type 0
EndAnswers world keeper s k node calls (Ok done) = CallEnded world keeper s k node calls
EndAnswers world keeper s k node calls (Err why) = EndMayStop s k node why

-- for each network with its disks
abbrev pub EndsCall : World → World → DiskKeeper → DiskKeeper → ℕ → ℕ → Result (Unit {0}) WorldStop → Type 0
EndsCall before after old new node calls result =
    (s : Setting) (k : KeptState) (most : ℕ) → CallBegun before old s k node calls most → EndAnswers after new s k node calls result
