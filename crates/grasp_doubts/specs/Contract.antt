-- What the code of a network of doubters promises: for each such network for which it stood before, it stands afterwards for one to which the event
-- leads.
use Rattle.std.specs.Prelude.{◌≡◌, Result, Ok, Err, IfOk}
use Rattle.grasp_cbor.specs.declared.memory.OutOfMemory.{OutOfMemory}
use Rattle.grasp_model_network.specs.Setting.{Setting, script_setting}
use Rattle.grasp_model_network.specs.Visits.{Choice}
use Rattle.grasp_model_network.specs.declared.plan.WorldPlan.{WorldPlan}
use Rattle.grasp_model_network.specs.declared.report.WorldStop.{WorldStop}
use Rattle.grasp_model_doubts.specs.Events.{DoubtMayStop, DoubtOccurs, IsDoubtFit, doubt_event, doubt_report}
use Rattle.grasp_model_doubts.specs.Openings.{first_doubts}
use Rattle.grasp_model_doubts.specs.World.{DoubtState}
use Rattle.grasp_model_doubts.specs.declared.event.DoubtEvent.{DoubtEvent}
use Rattle.grasp_model_doubts.specs.declared.report.DoubtReport.{DoubtReport}

-- a network with its doubters that goes on, or one that was stopped
pub data DoubtStanding : Type 0 where
  going : DoubtState → DoubtStanding
  stopped : WorldStop → DoubtStanding

-- a setting, and how its network stands
pub record DoubtNetwork : Type 0 where
  pub setting : Setting
  pub standing : DoubtStanding

-- the event may be asked for; where the network was stopped, any may
abbrev pub IsDoubtFitFor : Setting → DoubtStanding → DoubtEvent → Type 0
IsDoubtFitFor s (going x) e = IsDoubtFit s x e
IsDoubtFitFor s (stopped stop) e = Unit {0}

-- the code reports how the event came out, and stands for the network and the doubters after it
pub record DoubtReported (Stands : DoubtNetwork → Type 0) (s : Setting) (x : DoubtState) (e : DoubtEvent) (report : DoubtReport) : Type 0 where
  pub choice : Choice
  pub occurs : DoubtOccurs s x e choice
  pub report_is : report ≡ doubt_report s x e choice
  pub stands : Stands (record { setting = s; standing = going (doubt_event s x e choice) })

-- the code tells why the event stopped the network, and stands for a stopped one
pub record DoubtHalted (Stands : DoubtNetwork → Type 0) (s : Setting) (x : DoubtState) (e : DoubtEvent) (stop : WorldStop) : Type 0 where
  pub may_stop : DoubtMayStop s x e stop
  pub stands : Stands (record { setting = s; standing = stopped stop })

-- the code tells again why the network was stopped, and nothing changes
pub record DoubtStoppedStill (Stands : DoubtNetwork → Type 0) (s : Setting) (stop again : WorldStop) : Type 0 where
  pub same : again ≡ stop
  pub stands : Stands (record { setting = s; standing = stopped stop })

-- what the code answers to an event, and for what it stands then
abbrev pub DoubtAnswers : (DoubtNetwork → Type 0) → Setting → DoubtStanding → DoubtEvent → Result DoubtReport WorldStop → Type 0
DoubtAnswers Stands s (going x) e (Ok report) = DoubtReported Stands s x e report
DoubtAnswers Stands s (going x) e (Err stop) = DoubtHalted Stands s x e stop
DoubtAnswers Stands s (stopped stop) e (Ok report) = ⊥
DoubtAnswers Stands s (stopped stop) e (Err again) = DoubtStoppedStill Stands s stop again

-- the code stands for this network, and the event may be asked for
pub record MeetsDoubtEvent (Stands : DoubtNetwork → Type 0) (x : DoubtNetwork) (e : DoubtEvent) : Type 0 where
  pub stands : Stands x
  pub fit : IsDoubtFitFor x.setting x.standing e

-- for each network for which the code stood before the event, which may be asked for, it answers so; `Before` and `After` say for which
-- networks the code stands before the event and after it
abbrev pub DoubtStepped : (DoubtNetwork → Type 0) → (DoubtNetwork → Type 0) → DoubtEvent → Result DoubtReport WorldStop → Type 0
DoubtStepped Before After e result = (x : DoubtNetwork) → MeetsDoubtEvent Before x e → DoubtAnswers After x.setting x.standing e result

-- the network of a plan, in which each doubter has made its opening calls, and nothing else has happened
abbrev pub doubt_network_of : WorldPlan → DoubtNetwork
doubt_network_of p = record { setting = script_setting p; standing = going (first_doubts (script_setting p)) }

-- what is opened with a plan stands for its network
abbrev pub DoubtsOpened : {W : Type 0} → (W → DoubtNetwork → Type 0) → WorldPlan → Result W OutOfMemory → Type 0
DoubtsOpened Stands p result = IfOk result (λ world. Stands world (doubt_network_of p))
