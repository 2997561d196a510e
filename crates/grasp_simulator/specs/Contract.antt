-- What the code of a network promises: for each network for which it stood before, it stands afterwards for one to which the event leads.
use Rattle.std.specs.Prelude.{◌≡◌, Result, Ok, Err, IfOk}
use Rattle.grasp_cbor.specs.declared.memory.OutOfMemory.{OutOfMemory}
use Rattle.grasp_model_network.specs.Events.{IsFit, Occurs, MayStop, after_event}
use Rattle.grasp_model_network.specs.Reports.{report_of}
use Rattle.grasp_model_network.specs.Restarting.{MayRestart}
use Rattle.grasp_model_network.specs.Runs.{world_of}
use Rattle.grasp_model_network.specs.Setting.{Setting, script_setting}
use Rattle.grasp_model_network.specs.Settling.{IsDead}
use Rattle.grasp_model_network.specs.Turns.{IsTurn, after_turn}
use Rattle.grasp_model_network.specs.Visits.{Choice}
use Rattle.grasp_model_network.specs.World.{WorldState}
use Rattle.grasp_model_network.specs.declared.event.Event.{Event}
use Rattle.grasp_model_network.specs.declared.plan.WorldPlan.{WorldPlan}
use Rattle.grasp_model_network.specs.declared.report.Report.{Report}
use Rattle.grasp_model_network.specs.declared.report.Report.TheVariants.{Nothing}
use Rattle.grasp_model_network.specs.declared.report.WorldStop.{WorldStop}
use Rattle.grasp_model_network.specs.declared.report.WorldStop.TheVariants.{OutOfMemory as Starved}
use Rattle.grasp_model_network.specs.declared.turn.Turn.{Turn}
use Rattle.grasp_model_network.specs.declared.turn.Turn.TheVariants as turn

-- a network that goes on, or one that was stopped
pub data Standing : Type 0 where
  going : WorldState → Standing
  stopped : WorldStop → Standing

-- a setting, and how its network stands
pub record Network : Type 0 where
  pub setting : Setting
  pub standing : Standing

-- ---- an event

-- the event may be asked for; where the network was stopped, any may
abbrev pub IsFitFor : Setting → Standing → Event → Type 0
IsFitFor s (going w) e = IsFit s w e
IsFitFor s (stopped stop) e = Unit {0}

-- the code reports how the event came out, and stands for the network after it
pub record Reported (Stands : Network → Type 0) (s : Setting) (w : WorldState) (e : Event) (report : Report) : Type 0 where
  pub choice : Choice
  pub occurs : Occurs s w e choice
  pub report_is : report ≡ report_of s w e choice
  pub stands : Stands (record { setting = s; standing = going (after_event s w e choice) })

-- the code tells why the event stopped the network, and stands for a stopped one
pub record Halted (Stands : Network → Type 0) (s : Setting) (w : WorldState) (e : Event) (stop : WorldStop) : Type 0 where
  pub may_stop : MayStop s w e stop
  pub stands : Stands (record { setting = s; standing = stopped stop })

-- the code tells again why the network was stopped, and nothing changes
pub record StoppedStill (Stands : Network → Type 0) (s : Setting) (stop again : WorldStop) : Type 0 where
  pub same : again ≡ stop
  pub stands : Stands (record { setting = s; standing = stopped stop })

-- what the code answers to an event, and for what it stands then
abbrev pub Answers : (Network → Type 0) → Setting → Standing → Event → Result Report WorldStop → Type 0
Answers Stands s (going w) e (Ok report) = Reported Stands s w e report
Answers Stands s (going w) e (Err stop) = Halted Stands s w e stop
Answers Stands s (stopped stop) e (Ok report) = ⊥
Answers Stands s (stopped stop) e (Err again) = StoppedStill Stands s stop again

-- the code stands for this network, and the event may be asked for
pub record MeetsEvent (Stands : Network → Type 0) (x : Network) (e : Event) : Type 0 where
  pub stands : Stands x
  pub fit : IsFitFor x.setting x.standing e

-- for each network for which the code stood before the event, which may be asked for, it answers so; `Before` and `After` say for which
-- networks the code stands before the event and after it
abbrev pub WorldStepped : (Network → Type 0) → (Network → Type 0) → Event → Result Report WorldStop → Type 0
WorldStepped Before After e result = (x : Network) → MeetsEvent Before x e → Answers After x.setting x.standing e result

-- ---- a turn

-- the turn may be asked for: an event that fits, a prefix that may be settled, a node that may begin anew by the image
abbrev pub MayAsk : Setting → WorldState → Turn → Type 0
MayAsk s w (turn.Event e) = IsFit s w e
MayAsk s w (turn.Settle node prefix) = IsDead w node prefix
MayAsk s w (turn.Restart node image) = MayRestart s w node image

-- where the network was stopped, any may
abbrev pub MayAskFor : Setting → Standing → Turn → Type 0
MayAskFor s (going w) t = MayAsk s w t
MayAskFor s (stopped stop) t = Unit {0}

-- what is reported of a turn that comes out so: nothing of a settling and a restart
abbrev pub turn_report : Setting → WorldState → Turn → Choice → Report
turn_report s w (turn.Event e) c = report_of s w e c
turn_report s w (turn.Settle node prefix) c = Nothing
turn_report s w (turn.Restart node image) c = Nothing

-- the turn may stop the network for this: a settling takes no memory, and a restart may want some
abbrev pub MayStopAt : Setting → WorldState → Turn → WorldStop → Type 0
MayStopAt s w (turn.Event e) stop = MayStop s w e stop
MayStopAt s w (turn.Settle node prefix) stop = ⊥
MayStopAt s w (turn.Restart node image) stop = stop ≡ Starved

-- the code reports how the turn came out, and stands for the network after it
pub record TurnReported (Stands : Network → Type 0) (s : Setting) (w : WorldState) (t : Turn) (report : Report) : Type 0 where
  pub choice : Choice
  pub taken : IsTurn s w t choice
  pub report_is : report ≡ turn_report s w t choice
  pub stands : Stands (record { setting = s; standing = going (after_turn s w t choice) })

-- the code tells why the turn stopped the network, and stands for a stopped one
pub record TurnHalted (Stands : Network → Type 0) (s : Setting) (w : WorldState) (t : Turn) (stop : WorldStop) : Type 0 where
  pub may_stop : MayStopAt s w t stop
  pub stands : Stands (record { setting = s; standing = stopped stop })

-- what the code answers to a turn, and for what it stands then
abbrev pub TurnAnswers : (Network → Type 0) → Setting → Standing → Turn → Result Report WorldStop → Type 0
TurnAnswers Stands s (going w) t (Ok report) = TurnReported Stands s w t report
TurnAnswers Stands s (going w) t (Err stop) = TurnHalted Stands s w t stop
TurnAnswers Stands s (stopped stop) t (Ok report) = ⊥
TurnAnswers Stands s (stopped stop) t (Err again) = StoppedStill Stands s stop again

-- the code stands for this network, and the turn may be asked for
pub record MeetsTurn (Stands : Network → Type 0) (x : Network) (t : Turn) : Type 0 where
  pub stands : Stands x
  pub fit : MayAskFor x.setting x.standing t

-- for each network for which the code stood before the turn, which may be asked for, it answers so
abbrev pub WorldTurned : (Network → Type 0) → (Network → Type 0) → Turn → Result Report WorldStop → Type 0
WorldTurned Before After t result = (x : Network) → MeetsTurn Before x t → TurnAnswers After x.setting x.standing t result

-- ---- the opening

-- the network of a plan, in which nothing has happened
abbrev pub network_of : WorldPlan → Network
network_of p = record { setting = script_setting p; standing = going (world_of p) }

-- what is opened with a plan stands for its network
abbrev pub WorldOpened : {World : Type 0} → (World → Network → Type 0) → WorldPlan → Result World OutOfMemory → Type 0
WorldOpened Stands p result = IfOk result (λ world. Stands world (network_of p))
