-- Inside: what the code promises of one line of a record, for each network for which it goes on.
use Rattle.std.specs.Prelude.{◌≡◌, ◌↔◌, ◌≤◌, ℕ, Bool, true, IsTrue, List, Option, Some, Result, Ok, Err}
use Rattle.grasp_model_network.specs.Events.{IsFit, Occurs, Overflows, after_event}
use Rattle.grasp_model_network.specs.Runs.{Happening, IsRun, events_of, world_after}
use Rattle.grasp_model_network.specs.Setting.{Setting}
use Rattle.grasp_model_network.specs.Visits.{Choice}
use Rattle.grasp_model_network.specs.World.{WorldState}
use Rattle.grasp_model_network.specs.declared.event.Event.{Event}
use Rattle.grasp_record.specs.Answers.{told_words}
use Rattle.grasp_record.specs.Records.{IsRecordLine}
use Rattle.grasp_record.specs.declared.line.RecordLine.{RecordLine}
use Rattle.grasp_model_audit.specs.Faults.{LineFault, bad_record, not_agent, not_sent, not_step, too_much}
use Rattle.grasp_model_audit.specs.Lines.{LineHolds, answered_words}
use Rattle.grasp_model_audit.specs.Naming.{IsOfAgent, clock_before, event_named, reading_of}
use Rattle.grasp_simulator.specs.Lending.{StandsFor}
use Rattle.grasp_simulator.specs.declared.world.World.{World}
use Rattle.grasp_audit.specs.Standing.{GoesOn, IsAt}
use Rattle.grasp_audit.specs.declared.fault.LineFault.{LineFault as Fault}
use Rattle.grasp_audit.specs.declared.fault.LineFault.TheVariants as fault

-- ---- what the line means

-- its reading isn't below that of its node, in each network for which the code goes on
abbrev pub TellsInTime : World → RecordLine → Bool → Type 0
TellsInTime code x is_so = (s : Setting) (w : WorldState) → StandsFor code s w → IsTrue is_so ↔ (reading_of w x.node ≤ x.now)

-- ---- its event

abbrev pub NamesEvent : World → RecordLine → Option Event → Type 0
NamesEvent code x found = (s : Setting) (w : WorldState) → StandsFor code s w → event_named s w x ≡ found

-- ---- the node's own agent

abbrev pub TellsAgent : World → RecordLine → Bool → Type 0
TellsAgent code x is_so = (s : Setting) (w : WorldState) → StandsFor code s w → IsTrue is_so ↔ IsOfAgent w x.node x.input

-- ---- the clock before it

-- the clock came out so, and the code goes on for the network after it
pub record HasTurned (after : World) (s : Setting) (w : WorldState) (x : RecordLine) : Type 0 where
  pub clock : List Happening
  pub is_clock : events_of clock ≡ clock_before w x
  pub run : IsRun s w clock
  pub stands : StandsFor after s (world_after s w clock)

-- or there was no memory
abbrev pub ClockTurned : World → Setting → WorldState → RecordLine → Result (Unit {0}) Fault → Type 0
ClockTurned after s w x (Ok u) = HasTurned after s w x
ClockTurned after s w x (Err fault.OutOfMemory) = Unit {0}
ClockTurned after s w x (Err _) = ⊥

abbrev pub TurnsClock : World → World → RecordLine → Result (Unit {0}) Fault → Type 0
TurnsClock before after x result = (s : Setting) (w : WorldState) → StandsFor before s w → ClockTurned after s w x result

-- ---- the answer

-- the event came out so, the code goes on for the network after it, and tells whether it is answered as the line says
pub record HasAnswered (after : World) (s : Setting) (w : WorldState) (x : RecordLine) (e : Event) (is_so : Bool) : Type 0 where
  pub choice : Choice
  pub occurs : Occurs s w e choice
  pub stands : StandsFor after s (after_event s w e choice)
  pub same : IsTrue is_so ↔ (answered_words s w e choice ≡ told_words x.answer)

-- or it sends too much, or there was no memory
abbrev pub IsAnswered : World → Setting → WorldState → RecordLine → Event → Result Bool Fault → Type 0
IsAnswered after s w x e (Ok is_so) = HasAnswered after s w x e is_so
IsAnswered after s w x e (Err fault.TooMuch) = Overflows s w e
IsAnswered after s w x e (Err fault.OutOfMemory) = Unit {0}
IsAnswered after s w x e (Err _) = ⊥

abbrev pub AnswersEvent : World → World → RecordLine → Event → Result Bool Fault → Type 0
AnswersEvent before after x e result = (s : Setting) (w : WorldState) → StandsFor before s w → IsFit s w e → IsAnswered after s w x e result

-- ---- a line on its way

-- it is this line of a record
pub record HasFound (code : World) (nodes : ℕ) (line : List ℕ) (x : RecordLine) : Type 0 where
  pub goes : GoesOn code nodes
  pub is_line : IsRecordLine nodes line x

-- and means that in each network for which the code goes on
pub record HasRead (code : World) (nodes : ℕ) (line : List ℕ) (x : RecordLine) : Type 0 where
  pub found : HasFound code nodes line x
  pub in_time : TellsInTime code x true

-- and names this event
pub record HasNamed (code : World) (nodes : ℕ) (line : List ℕ) (x : RecordLine) (e : Event) : Type 0 where
  pub read : HasRead code nodes line x
  pub names : NamesEvent code x (Some e)

-- and is a call of the node's own agent only where the agent makes it next
pub record HasAsked (code : World) (nodes : ℕ) (line : List ℕ) (x : RecordLine) (e : Event) : Type 0 where
  pub named : HasNamed code nodes line x e
  pub tells : TellsAgent code x true

-- ---- the whole line

-- the line holds, and the code goes on for the network after it
pub record HasHeld (after : World) (nodes : ℕ) (s : Setting) (w : WorldState) (line : List ℕ) : Type 0 where
  pub meant : RecordLine
  pub happened : List Happening
  pub holds : LineHolds nodes s w line meant happened
  pub is_at : IsAt after nodes s (world_after s w happened)

-- or it fails by this cause, or there was no memory
abbrev pub LineAudited : World → ℕ → Setting → WorldState → List ℕ → Result (Unit {0}) Fault → Type 0
LineAudited after nodes s w line (Ok u) = HasHeld after nodes s w line
LineAudited after nodes s w line (Err fault.BadRecord) = LineFault nodes s w line bad_record
LineAudited after nodes s w line (Err fault.NotSent) = LineFault nodes s w line not_sent
LineAudited after nodes s w line (Err fault.NotAgent) = LineFault nodes s w line not_agent
LineAudited after nodes s w line (Err fault.TooMuch) = LineFault nodes s w line too_much
LineAudited after nodes s w line (Err fault.NotStep) = LineFault nodes s w line not_step
LineAudited after nodes s w line (Err fault.OutOfMemory) = Unit {0}

abbrev pub AuditsLine : World → World → ℕ → List ℕ → Result (Unit {0}) Fault → Type 0
AuditsLine before after nodes line result = (s : Setting) (w : WorldState) → IsAt before nodes s w → LineAudited after nodes s w line result
