-- How the code of a network and the keeper of a node's disk go on, and the events of that node.
use Rattle.std.specs.Prelude.{◌≡◌, ℕ, ◌+◌, ◌-◌, ◌<◌, ◌^◌, Bool, length, Result, Ok, Err}
use Rattle.grasp_disk.specs.Memory.{written_by}
use Rattle.grasp_model_network.specs.Events.{IsFit, MayStop, Occurs, after_event}
use Rattle.grasp_model_network.specs.Plans.{IsNode}
use Rattle.grasp_model_network.specs.Reports.{report_of}
use Rattle.grasp_model_network.specs.Setting.{Setting}
use Rattle.grasp_model_network.specs.Visits.{Choice}
use Rattle.grasp_model_network.specs.World.{WorldState}
use Rattle.grasp_model_network.specs.declared.event.Event.{Event}
use Rattle.grasp_model_network.specs.declared.event.Event.TheVariants as event
use Rattle.grasp_model_network.specs.declared.report.Report.{Report}
use Rattle.grasp_model_network.specs.declared.report.WorldStop.{WorldStop}
use Rattle.grasp_model_kept.specs.Disks.{call_asks, roots_of, telling_asks}
use Rattle.grasp_model_kept.specs.World.{KeptState, disk_of}
use Rattle.grasp_laws_kept.specs.Laws.{KeptStands}
use Rattle.grasp_simulator.specs.Contract.{Network, going}
use Rattle.grasp_simulator.specs.WorldStands.{WorldStands}
use Rattle.grasp_simulator.specs.declared.world.World.{World}
use Rattle.grasp_kept.specs.Keepers.{DiskKeeper, KeepsDisk}

-- a network that goes on
abbrev pub network_at : Setting → WorldState → Network
network_at s w = record { setting = s; standing = going w }

-- ---- a node and its keeper

-- Inside: the code stands for the network, and the keeper keeps the disk of this node. Numbers of images are at most so great
pub record NodeGoes (world : World) (keeper : DiskKeeper) (s : Setting) (k : KeptState) (node most : ℕ) : Type 0 where
  pub stands : WorldStands world (network_at s k.world)
  pub kept : KeptStands s most k
  pub below : most + 2 < 2 ^ 64 - 1
  pub member : IsNode (length s.members) node
  pub keeps : KeepsDisk (roots_of s node) keeper (disk_of k.disks node)

-- Inside: for some network with its disks
pub record HasKeeper (world : World) (keeper : DiskKeeper) (node : ℕ) : Type 0 where
  pub setting : Setting
  pub state : KeptState
  pub most : ℕ
  pub goes : NodeGoes world keeper setting state node most

-- ---- a call of its agent

-- Inside: the call came out so, the code stands for the network after it, and the keeper keeps what its calls made of the disk
pub record CallMade (world : World) (keeper : DiskKeeper) (s : Setting) (k : KeptState) (node : ℕ) (hold : Bool) (report : Report) : Type 0 where
  pub choice : Choice
  pub occurs : Occurs s k.world (event.Agent node hold) choice
  pub report_is : report ≡ report_of s k.world (event.Agent node hold) choice
  pub stands : WorldStands world (network_at s (after_event s k.world (event.Agent node hold) choice))
  pub keeps : KeepsDisk (roots_of s node) keeper (written_by (disk_of k.disks node) (call_asks s k node (after_event s k.world (event.Agent node hold) choice)))

-- Inside: or it may stop the network for this
abbrev pub CallAnswers : World → DiskKeeper → Setting → KeptState → ℕ → Bool → Result Report WorldStop → Type 0
CallAnswers world keeper s k node hold (Ok report) = CallMade world keeper s k node hold report
CallAnswers world keeper s k node hold (Err why) = MayStop s k.world (event.Agent node hold) why

-- Inside: for each network with its disks
abbrev pub MakesCall : World → World → DiskKeeper → DiskKeeper → ℕ → Bool → Result Report WorldStop → Type 0
MakesCall before after old new node hold result = (s : Setting) (k : KeptState) (most : ℕ) → NodeGoes before old s k node most → CallAnswers after new s k node hold result

-- ---- a want or a return

-- Inside: the node's agent may be told of this
pub record CanTell (world : World) (keeper : DiskKeeper) (node : ℕ) (e : Event) : Type 0 where
  pub has : HasKeeper world keeper node
  pub fit : IsFit has.setting has.state.world e

-- Inside: it was told so, the code stands for the network after it, and the keeper keeps what its calls made of the disk
pub record TellingDone (world : World) (keeper : DiskKeeper) (s : Setting) (k : KeptState) (node : ℕ) (e : Event) (report : Report) : Type 0 where
  pub choice : Choice
  pub occurs : Occurs s k.world e choice
  pub report_is : report ≡ report_of s k.world e choice
  pub stands : WorldStands world (network_at s (after_event s k.world e choice))
  pub keeps : KeepsDisk (roots_of s node) keeper (written_by (disk_of k.disks node) (telling_asks s k node (after_event s k.world e choice)))

-- Inside: or it may stop the network for this
abbrev pub TellingAnswers : World → DiskKeeper → Setting → KeptState → ℕ → Event → Result Report WorldStop → Type 0
TellingAnswers world keeper s k node e (Ok report) = TellingDone world keeper s k node e report
TellingAnswers world keeper s k node e (Err why) = MayStop s k.world e why

-- Inside: for each network with its disks that the event fits
abbrev pub Tells : World → World → DiskKeeper → DiskKeeper → ℕ → Event → Result Report WorldStop → Type 0
Tells before after old new node e result =
    (s : Setting) (k : KeptState) (most : ℕ) → NodeGoes before old s k node most → IsFit s k.world e → TellingAnswers after new s k node e result
