-- What the code of a network whose nodes crash promises: for each such network for which it stood before, it stands afterwards for one to which the
-- event leads.
use Rattle.std.specs.Prelude.{◌≡◌, Result, Ok, Err, IfOk}
use Rattle.grasp_cbor.specs.declared.memory.OutOfMemory.{OutOfMemory}
use Rattle.grasp_model_network.specs.Setting.{Setting, script_setting}
use Rattle.grasp_model_network.specs.Visits.{Choice}
use Rattle.grasp_model_network.specs.declared.plan.WorldPlan.{WorldPlan}
use Rattle.grasp_model_network.specs.declared.report.WorldStop.{WorldStop}
use Rattle.grasp_model_kept.specs.Runs.{IsKeptFit, KeptMayStop, KeptOccurs, kept_event, kept_report}
use Rattle.grasp_model_kept.specs.World.{KeptState, first_kept}
use Rattle.grasp_model_kept.specs.declared.event.KeptEvent.{KeptEvent}
use Rattle.grasp_model_kept.specs.declared.report.KeptReport.{KeptReport}

-- a network with its disks that goes on, or one that was stopped
pub data KeptStanding : Type 0 where
  going : KeptState → KeptStanding
  stopped : WorldStop → KeptStanding

-- a setting, and how its network stands
pub record KeptNetwork : Type 0 where
  pub setting : Setting
  pub standing : KeptStanding

-- the event may be asked for; where the network was stopped, any may
abbrev pub IsKeptFitFor : Setting → KeptStanding → KeptEvent → Type 0
IsKeptFitFor s (going k) e = IsKeptFit s k e
IsKeptFitFor s (stopped stop) e = Unit {0}

-- the code reports how the event came out, and stands for the network and the disks after it
pub record KeptReported (Stands : KeptNetwork → Type 0) (s : Setting) (k : KeptState) (e : KeptEvent) (report : KeptReport) : Type 0 where
  pub choice : Choice
  pub occurs : KeptOccurs s k e choice
  pub report_is : report ≡ kept_report s k e choice
  pub stands : Stands (record { setting = s; standing = going (kept_event s k e choice) })

-- the code tells why the event stopped the network, and stands for a stopped one
pub record KeptHalted (Stands : KeptNetwork → Type 0) (s : Setting) (k : KeptState) (e : KeptEvent) (stop : WorldStop) : Type 0 where
  pub may_stop : KeptMayStop s k e stop
  pub stands : Stands (record { setting = s; standing = stopped stop })

-- the code tells again why the network was stopped, and nothing changes
pub record KeptStoppedStill (Stands : KeptNetwork → Type 0) (s : Setting) (stop again : WorldStop) : Type 0 where
  pub same : again ≡ stop
  pub stands : Stands (record { setting = s; standing = stopped stop })

-- what the code answers to an event, and for what it stands then
abbrev pub KeptAnswers : (KeptNetwork → Type 0) → Setting → KeptStanding → KeptEvent → Result KeptReport WorldStop → Type 0
KeptAnswers Stands s (going k) e (Ok report) = KeptReported Stands s k e report
KeptAnswers Stands s (going k) e (Err stop) = KeptHalted Stands s k e stop
KeptAnswers Stands s (stopped stop) e (Ok report) = ⊥
KeptAnswers Stands s (stopped stop) e (Err again) = KeptStoppedStill Stands s stop again

-- the code stands for this network, and the event may be asked for
pub record MeetsKeptEvent (Stands : KeptNetwork → Type 0) (x : KeptNetwork) (e : KeptEvent) : Type 0 where
  pub stands : Stands x
  pub fit : IsKeptFitFor x.setting x.standing e

-- for each network for which the code stood before the event, which may be asked for, it answers so; `Before` and `After` say for which
-- networks the code stands before the event and after it
abbrev pub KeptStepped : (KeptNetwork → Type 0) → (KeptNetwork → Type 0) → KeptEvent → Result KeptReport WorldStop → Type 0
KeptStepped Before After e result = (x : KeptNetwork) → MeetsKeptEvent Before x e → KeptAnswers After x.setting x.standing e result

-- the network of a plan, in which nothing has happened, with a disk for each node on which nothing was written
abbrev pub kept_network_of : WorldPlan → KeptNetwork
kept_network_of p = record { setting = script_setting p; standing = going (first_kept (script_setting p)) }

-- what is opened with a plan stands for its network
abbrev pub KeptOpened : {W : Type 0} → (W → KeptNetwork → Type 0) → WorldPlan → Result W OutOfMemory → Type 0
KeptOpened Stands p result = IfOk result (λ world. Stands world (kept_network_of p))
