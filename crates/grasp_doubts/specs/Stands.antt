-- How the code stands for a network of a plan whose nodes have doubters.
use Rattle.std.specs.Prelude.{◌≡◌, length, None, Some, Result, Ok, Err}
use Rattle.grasp_model_network.specs.Events.{MayStop}
use Rattle.grasp_model_network.specs.Reports.{report_of}
use Rattle.grasp_model_network.specs.Setting.{Setting}
use Rattle.grasp_model_network.specs.Visits.{Choice}
use Rattle.grasp_model_network.specs.declared.event.Event.{Event}
use Rattle.grasp_model_network.specs.declared.report.Report.{Report}
use Rattle.grasp_model_network.specs.declared.report.WorldStop.{WorldStop}
use Rattle.grasp_model_doubts.specs.Events.{DoubtMayStop, DoubtOccurs, IsDoubtFit, doubt_event, doubt_report}
use Rattle.grasp_model_doubts.specs.Runs.{IsDoubted}
use Rattle.grasp_model_doubts.specs.World.{DoubtState}
use Rattle.grasp_model_doubts.specs.declared.event.DoubtEvent.{DoubtEvent}
use Rattle.grasp_model_doubts.specs.declared.event.DoubtEvent.TheVariants as doubt
use Rattle.grasp_model_doubts.specs.declared.report.DoubtReport.{DoubtReport}
use Rattle.grasp_simulator.specs.WorldStands.{WorldStands}
use Rattle.grasp_simulator.specs.declared.world.World.{World}
use Rattle.grasp_doubts.specs.Contract.{DoubtNetwork, DoubtStanding, DoubtStepped, MeetsDoubtEvent, going, stopped}
use Rattle.grasp_doubts.specs.Nodes.{network_at}
use Rattle.grasp_doubts.specs.declared.doubt_world.DoubtWorld.{DoubtWorld}

-- the network itself
abbrev pub network_in : DoubtWorld → World
network_in code = code.world

-- the code keeps this network, and a doubter for each of its nodes; events have led to both from the first network of doubters
pub record DoubtGoes (code : DoubtWorld) (s : Setting) (x : DoubtState) : Type 0 where
  pub doubted : IsDoubted s x
  pub world : WorldStands code.world (network_at s x.world)
  pub count : length code.doubters.items ≡ length s.members
  pub doubters : code.doubters.items ≡ x.doubters

-- the code keeps a network that goes on, or why it was stopped
abbrev pub DoubtStandsSo : DoubtWorld → Setting → DoubtStanding → Type 0
DoubtStandsSo code s (going x) = DoubtGoes code s x × (code.stopped ≡ None)
DoubtStandsSo code s (stopped stop) = code.stopped ≡ Some stop

-- the code stands for this network
pub record DoubtWorldStands (code : DoubtWorld) (x : DoubtNetwork) : Type 0 where
  pub stands : DoubtStandsSo code x.setting x.standing

-- the code stands for a network for which the event may be asked for
pub record IsDoubtAsked (code : DoubtWorld) (e : DoubtEvent) : Type 0 where
  pub network : DoubtNetwork
  pub meets : MeetsDoubtEvent (DoubtWorldStands code) network e

-- for each network for which the code stood before the event, which may be asked for, it answers as the event leads on, and stands for the
-- network after it
abbrev pub DoubtWorldStepped : DoubtWorld → DoubtWorld → DoubtEvent → Result DoubtReport WorldStop → Type 0
DoubtWorldStepped before after e result = DoubtStepped (DoubtWorldStands before) (DoubtWorldStands after) e result

-- ---- an event

-- Inside: the code keeps a network, and the event fits
pub record DoubtFits (code : DoubtWorld) (s : Setting) (x : DoubtState) (e : DoubtEvent) : Type 0 where
  pub goes : DoubtGoes code s x
  pub fit : IsDoubtFit s x e

-- Inside: so it is of some network
pub record DoubtCanRun (code : DoubtWorld) (e : DoubtEvent) : Type 0 where
  pub setting : Setting
  pub state : DoubtState
  pub fits : DoubtFits code setting state e

-- Inside: the event came out so, and the code keeps the network after it
pub record DoubtHasRun (code : DoubtWorld) (s : Setting) (x : DoubtState) (e : DoubtEvent) (told : DoubtReport) : Type 0 where
  pub choice : Choice
  pub occurs : DoubtOccurs s x e choice
  pub report_is : told ≡ doubt_report s x e choice
  pub goes : DoubtGoes code s (doubt_event s x e choice)

-- Inside: or it may stop the network for this
abbrev pub DoubtRunAnswers : DoubtWorld → Setting → DoubtState → DoubtEvent → Result DoubtReport WorldStop → Type 0
DoubtRunAnswers code s x e (Ok told) = DoubtHasRun code s x e told
DoubtRunAnswers code s x e (Err why) = DoubtMayStop s x e why

-- Inside: for each network that the event fits
abbrev pub DoubtRuns : DoubtWorld → DoubtWorld → DoubtEvent → Result DoubtReport WorldStop → Type 0
DoubtRuns before after e result = (s : Setting) (x : DoubtState) → DoubtFits before s x e → DoubtRunAnswers after s x e result

-- ---- an event that is neither a doubter's call nor a question

-- Inside: it may be asked for
abbrev pub CanHappen : DoubtWorld → Event → Type 0
CanHappen code e = DoubtCanRun code (doubt.Plain e)

-- Inside: it came out so, and the code keeps the network after it
pub record HasHappened (code : DoubtWorld) (s : Setting) (x : DoubtState) (e : Event) (told : Report) : Type 0 where
  pub choice : Choice
  pub occurs : DoubtOccurs s x (doubt.Plain e) choice
  pub report_is : told ≡ report_of s x.world e choice
  pub goes : DoubtGoes code s (doubt_event s x (doubt.Plain e) choice)

-- Inside: or it may stop the network for this
abbrev pub HappensSo : DoubtWorld → Setting → DoubtState → Event → Result Report WorldStop → Type 0
HappensSo code s x e (Ok told) = HasHappened code s x e told
HappensSo code s x e (Err why) = MayStop s x.world e why

-- Inside: for each network that it fits
abbrev pub Happens : DoubtWorld → DoubtWorld → Event → Result Report WorldStop → Type 0
Happens before after e result = (s : Setting) (x : DoubtState) → DoubtFits before s x (doubt.Plain e) → HappensSo after s x e result
