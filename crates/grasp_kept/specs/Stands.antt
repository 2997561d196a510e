-- How the code stands for a network of a plan whose nodes crash.
use Rattle.std.specs.Prelude.{◌≡◌, ℕ, ◌+◌, ◌-◌, ◌*◌, ◌<◌, ◌^◌, List, length, None, Some, Result, Ok, Err}
use Rattle.grasp_disk.specs.declared.left.Left.{Left}
use Rattle.grasp_pool.specs.declared.image.PoolImage.{PoolImage}
use Rattle.grasp_model_network.specs.Events.{MayStop, Occurs}
use Rattle.grasp_model_network.specs.Plans.{IsGoodPlan, IsNode}
use Rattle.grasp_model_network.specs.Reports.{report_of}
use Rattle.grasp_model_network.specs.Setting.{Setting, numbered, script_setting}
use Rattle.grasp_model_network.specs.Visits.{Choice}
use Rattle.grasp_model_network.specs.declared.event.Event.{Event}
use Rattle.grasp_model_network.specs.declared.report.Report.{Report}
use Rattle.grasp_model_network.specs.declared.report.WorldStop.{WorldStop}
use Rattle.grasp_model_kept.specs.Crashing.{image_left}
use Rattle.grasp_model_kept.specs.Disks.{roots_of}
use Rattle.grasp_model_kept.specs.Runs.{IsKeptFit, KeptMayStop, KeptOccurs, kept_event, kept_report}
use Rattle.grasp_model_kept.specs.World.{KeptState, disk_of}
use Rattle.grasp_model_kept.specs.declared.event.KeptEvent.{KeptEvent}
use Rattle.grasp_model_kept.specs.declared.event.KeptEvent.TheVariants as kept
use Rattle.grasp_model_kept.specs.declared.report.KeptReport.{KeptReport}
use Rattle.grasp_laws_kept.specs.Laws.{KeptStands}
use Rattle.grasp_simulator.specs.WorldStands.{WorldStands}
use Rattle.grasp_simulator.specs.declared.world.World.{World}
use Rattle.grasp_kept.specs.Contract.{KeptNetwork, KeptStanding, KeptStepped, MeetsKeptEvent, going, stopped}
use Rattle.grasp_kept.specs.Keepers.{DiskKeeper, KeepsDisk}
use Rattle.grasp_kept.specs.Nodes.{network_at}
use Rattle.grasp_kept.specs.declared.kept_world.KeptWorld.{KeptWorld}

-- how many steps the code has made
abbrev pub steps_of : KeptWorld → ℕ
steps_of code = code.steps

-- the network itself
abbrev pub network_in : KeptWorld → World
network_in code = code.world

-- each node has a keeper, which keeps its disk
pub record KeepersStand (s : Setting) (disks : List (List ℕ)) (keepers : List DiskKeeper) : Type 0 where
  pub count : length keepers ≡ length s.members
  pub each : (node : ℕ) (keeper : DiskKeeper) → numbered keepers node ≡ Some keeper → KeepsDisk (roots_of s node) keeper (disk_of disks node)

-- the code keeps this network of its good plan, with its disks; turns have led to it, and the disks have the images of the pools, with numbers that
-- are at most so great
pub record KeptGoes (code : KeptWorld) (s : Setting) (k : KeptState) (most : ℕ) : Type 0 where
  pub good : IsGoodPlan code.plan
  pub setting : s ≡ script_setting code.plan
  pub world : WorldStands code.world (network_at s k.world)
  pub keepers : KeepersStand s k.disks code.keepers.items
  pub kept : KeptStands s most k

-- the code keeps a network that goes on, or why it was stopped; an event raises the number of an image by 2 at most
abbrev pub KeptStandsSo : KeptWorld → Setting → KeptStanding → Type 0
KeptStandsSo code s (going k) = KeptGoes code s k (2 * code.steps) × (code.stopped ≡ None)
KeptStandsSo code s (stopped stop) = code.stopped ≡ Some stop

-- the code stands for this network
pub record KeptWorldStands (code : KeptWorld) (x : KeptNetwork) : Type 0 where
  pub stands : KeptStandsSo code x.setting x.standing

-- the code stands for a network for which the event may be asked for
pub record IsKeptAsked (code : KeptWorld) (e : KeptEvent) : Type 0 where
  pub network : KeptNetwork
  pub meets : MeetsKeptEvent (KeptWorldStands code) network e

-- for each network for which the code stood before the event, which may be asked for, it answers as the event leads on, and stands for the
-- network after it
abbrev pub KeptWorldStepped : KeptWorld → KeptWorld → KeptEvent → Result KeptReport WorldStop → Type 0
KeptWorldStepped before after e result = KeptStepped (KeptWorldStands before) (KeptWorldStands after) e result

-- ---- an event

-- Inside: the code keeps a network, and the event fits
pub record KeptFits (code : KeptWorld) (s : Setting) (k : KeptState) (most : ℕ) (e : KeptEvent) : Type 0 where
  pub goes : KeptGoes code s k most
  pub below : most + 2 < 2 ^ 64 - 1
  pub fit : IsKeptFit s k e

-- Inside: so it is of some network
pub record KeptCanRun (code : KeptWorld) (e : KeptEvent) : Type 0 where
  pub setting : Setting
  pub state : KeptState
  pub most : ℕ
  pub fits : KeptFits code setting state most e

-- Inside: the event came out so, and the code keeps the network after it
pub record KeptHasRun (code : KeptWorld) (s : Setting) (k : KeptState) (most : ℕ) (e : KeptEvent) (told : KeptReport) : Type 0 where
  pub choice : Choice
  pub occurs : KeptOccurs s k e choice
  pub report_is : told ≡ kept_report s k e choice
  pub goes : KeptGoes code s (kept_event s k e choice) (most + 2)

-- Inside: or it may stop the network for this
abbrev pub KeptRunAnswers : KeptWorld → Setting → KeptState → ℕ → KeptEvent → Result KeptReport WorldStop → Type 0
KeptRunAnswers code s k most e (Ok told) = KeptHasRun code s k most e told
KeptRunAnswers code s k most e (Err why) = KeptMayStop s k e why

-- Inside: for each network that the event fits
abbrev pub KeptRuns : KeptWorld → KeptWorld → KeptEvent → Result KeptReport WorldStop → Type 0
KeptRuns before after e result = (s : Setting) (k : KeptState) (most : ℕ) → KeptFits before s k most e → KeptRunAnswers after s k most e result

-- ---- an event that is no crash

-- Inside: it may be asked for
abbrev pub CanHappen : KeptWorld → Event → Type 0
CanHappen code e = KeptCanRun code (kept.Plain e)

-- Inside: it came out so, and the code keeps the network after it
pub record HasHappened (code : KeptWorld) (s : Setting) (k : KeptState) (most : ℕ) (e : Event) (told : Report) : Type 0 where
  pub choice : Choice
  pub occurs : Occurs s k.world e choice
  pub report_is : told ≡ report_of s k.world e choice
  pub goes : KeptGoes code s (kept_event s k (kept.Plain e) choice) (most + 2)

-- Inside: or it may stop the network for this
abbrev pub HappensSo : KeptWorld → Setting → KeptState → ℕ → Event → Result Report WorldStop → Type 0
HappensSo code s k most e (Ok told) = HasHappened code s k most e told
HappensSo code s k most e (Err why) = MayStop s k.world e why

-- Inside: for each network that it fits
abbrev pub Happens : KeptWorld → KeptWorld → Event → Result Report WorldStop → Type 0
Happens before after e result = (s : Setting) (k : KeptState) (most : ℕ) → KeptFits before s k most (kept.Plain e) → HappensSo after s k most e result

-- ---- a crash

-- Inside: the code keeps a network with a node of this number
pub record CrashFits (code : KeptWorld) (s : Setting) (k : KeptState) (most node : ℕ) : Type 0 where
  pub goes : KeptGoes code s k most
  pub below : most + 2 < 2 ^ 64 - 1
  pub member : IsNode (length s.members) node

-- Inside: so it is of some network
pub record CanCrash (code : KeptWorld) (node : ℕ) : Type 0 where
  pub setting : Setting
  pub state : KeptState
  pub most : ℕ
  pub fits : CrashFits code setting state most node

-- Inside: the node has crashed and begun anew with this image, and the code keeps the network after that
pub record HasCrashed (code : KeptWorld) (s : Setting) (k : KeptState) (most node calls : ℕ) (left : Left) (image : PoolImage) : Type 0 where
  pub choice : Choice
  pub occurs : KeptOccurs s k (kept.Crash node calls left) choice
  pub image_is : image ≡ image_left s k node calls left choice
  pub goes : KeptGoes code s (kept_event s k (kept.Crash node calls left) choice) (most + 2)

-- Inside: or it may stop the network for this
abbrev pub CrashAnswers : KeptWorld → Setting → KeptState → ℕ → ℕ → ℕ → Left → Result PoolImage WorldStop → Type 0
CrashAnswers code s k most node calls left (Ok image) = HasCrashed code s k most node calls left image
CrashAnswers code s k most node calls left (Err why) = KeptMayStop s k (kept.Crash node calls left) why

-- Inside: for each network with a node of this number
abbrev pub Crashes : KeptWorld → KeptWorld → ℕ → ℕ → Left → Result PoolImage WorldStop → Type 0
Crashes before after node calls left result = (s : Setting) (k : KeptState) (most : ℕ) → CrashFits before s k most node → CrashAnswers after s k most node calls left result
