-- Inside: how the record of one event is written.
use Rattle.std.specs.Prelude.{◌≡◌, ◌≤◌, ◌⊎◌, ℕ, Bool, true, false, List, [], ◌∷◌, length, map, Option, None, Some, Result, Ok, Err}
use Rattle.grasp_cbor.specs.declared.memory.OutOfMemory.{OutOfMemory}
use Rattle.grasp_types.specs.declared.traffic.Output.{Output}
use Rattle.grasp_model_network.specs.Events.{IsFit, Occurs, Overflows, after_event, visit_of}
use Rattle.grasp_model_network.specs.Sending.{event_drain}
use Rattle.grasp_model_network.specs.Setting.{Setting}
use Rattle.grasp_model_network.specs.Visits.{Choice, Visit}
use Rattle.grasp_model_network.specs.World.{WorldState, member_of}
use Rattle.grasp_model_network.specs.declared.event.Event.{Event}
use Rattle.grasp_model_network.specs.declared.event.Event.TheVariants as event
use Rattle.grasp_model_network.specs.declared.report.Report.{Report}
use Rattle.grasp_model_network.specs.declared.report.Report.TheVariants as report
use Rattle.grasp_model_network.specs.declared.report.WorldStop.{WorldStop}
use Rattle.grasp_model_network.specs.declared.report.WorldStop.TheVariants as stop
use Rattle.grasp_record.specs.Records.{record_line}
use Rattle.grasp_record.specs.declared.line.RecordAnswer.{RecordAnswer}
use Rattle.grasp_record.specs.declared.line.RecordAnswer.TheVariants as answer
use Rattle.grasp_record.specs.declared.line.RecordInput.TheVariants as took
use Rattle.grasp_record.specs.declared.line.RecordLine.{RecordLine}
use Rattle.grasp_model_audit.specs.Recording.{answer_by, ended_lines, event_lines, took_by}
use Rattle.grasp_simulator.specs.Lending.{LendsOutputs}
use Rattle.grasp_simulator.specs.WorldStands.{WorldStands}
use Rattle.grasp_simulator.specs.WorldSteps.{Stepped}
use Rattle.grasp_simulator.specs.declared.world.World.{World}
use Rattle.grasp_runner.specs.Lines.{network_at}
use Rattle.grasp_recorder.specs.Lines.{KnowsReadings}
use Rattle.grasp_recorder.specs.declared.recorder.Recorder.{Recorder}
use Rattle.grasp_recorder.specs.declared.taken.Taken.{Taken}

-- ---- an event

-- the code goes on for this network, in which the event may be asked for
pub record MeetsFit (code : World) (s : Setting) (w : WorldState) (e : Event) : Type 0 where
  pub stands : WorldStands code (network_at s w)
  pub fit : IsFit s w e

-- it does so for some network
pub record CanHappen (code : World) (e : Event) : Type 0 where
  pub setting : Setting
  pub network : WorldState
  pub meets : MeetsFit code setting network e

-- and the recorder knows the readings
pub record MeetsEvent (recorder : Recorder) (code : World) (s : Setting) (w : WorldState) (e : Event) : Type 0 where
  pub met : MeetsFit code s w e
  pub knows : KnowsReadings recorder s w

pub record CanRecordEvent (recorder : Recorder) (code : World) (e : Event) : Type 0 where
  pub setting : Setting
  pub network : WorldState
  pub meets : MeetsEvent recorder code setting network e

-- the event came out so, and this is the text of its record lines
pub record EventRecorded (recorder : Recorder) (code : World) (s : Setting) (w : WorldState) (e : Event) (written : List ℕ) : Type 0 where
  pub choice : Choice
  pub occurs : Occurs s w e choice
  pub written_is : written ≡ ended_lines (map record_line (event_lines s w e choice))
  pub stands : WorldStands code (network_at s (after_event s w e choice))
  pub knows : KnowsReadings recorder s (after_event s w e choice)

abbrev pub EventMayStop : Setting → WorldState → Event → WorldStop → Type 0
EventMayStop s w e stop.TooMuch = Overflows s w e
EventMayStop s w e stop.OutOfMemory = Unit {0}

abbrev pub EventAnswers : Recorder → World → Setting → WorldState → Event → Result (List ℕ) WorldStop → Type 0
EventAnswers recorder code s w e (Ok written) = EventRecorded recorder code s w e written
EventAnswers recorder code s w e (Err why) = EventMayStop s w e why

-- for each network for which the code went on, and of which the recorder knew the readings
abbrev pub RecordsEvent : Recorder → World → Recorder → World → Event → Result (List ℕ) WorldStop → Type 0
RecordsEvent recorder code then after e result = (s : Setting) (w : WorldState) → MeetsEvent recorder code s w e → EventAnswers then after s w e result

-- ---- what is taken, and what is answered

-- neither a clock nor a drain
abbrev pub IsRecordedStep : Event → Type 0
IsRecordedStep (event.Clock node millis) = ⊥
IsRecordedStep (event.Drain node max) = ⊥
IsRecordedStep _ = Unit {0}

-- what a want and a return ask of the node's own agent
abbrev pub asked_by : Event → Option Taken
asked_by (event.Want node length longest peer) = Some (record { node = node; input = took.Want length longest peer })
asked_by (event.Return node prefix peer) = Some (record { node = node; input = took.Return prefix peer })
asked_by _ = None

-- what the event's node takes
abbrev pub taken_by : WorldState → Event → Option Visit → Option Taken
taken_by w e None = asked_by e
taken_by w e (Some v) = Some (record { node = member_of w v.node; input = took_by e v.input })

-- it is this, for each network for which the code goes on and in which something comes of the event
abbrev pub TellsTaken : World → Event → Option Taken → Type 0
TellsTaken code e found = (s : Setting) (w : WorldState) → MeetsFit code s w e → (t : Taken) → taken_by w e (visit_of s w e) ≡ Some t → found ≡ Some t

-- what the node answers, by what is reported of the event; where nothing comes of it there is no answer
abbrev pub answer_in : Report → Option RecordAnswer
answer_in (report.Reply r) = Some (answer_by r)
answer_in (report.Agent call r) = Some (answer_by r)
answer_in (report.Want taken) = Some (answer.Want taken)
answer_in (report.Return taken) = Some (answer.Return taken)
answer_in report.Nothing = None
answer_in (report.Reading now) = None
answer_in (report.Sent count) = None

-- the report is that of a clock
abbrev pub IsReading : Report → Type 0
IsReading (report.Reading now) = Unit {0}
IsReading _ = ⊥

-- a network can have a node of this number
pub record HasReading (node : ℕ) : Type 0 where
  pub least : 1 ≤ node
  pub most : node ≤ 64

-- ---- texts

-- the line of a drain
abbrev pub drained_line : ℕ → ℕ → ℕ → List Output → RecordLine
drained_line node now max outputs = record { node = node; now = now; input = took.Drain max; answer = answer.Outputs outputs }

abbrev pub told_of : Result (List ℕ) OutOfMemory → Result (List ℕ) WorldStop
told_of (Ok text) = Ok text
told_of (Err fault) = Err stop.OutOfMemory

-- the line, and that of the drain behind it, which gave these outputs
pub record DrainTold (before after : World) (line : RecordLine) (written : List ℕ) : Type 0 where
  pub outputs : List Output
  pub steps : Stepped before after (event.Drain line.node event_drain) (Ok (report.Sent (length outputs)))
  pub lends : LendsOutputs before line.node event_drain outputs
  pub written_is : written ≡ ended_lines (record_line line ∷ record_line (drained_line line.node line.now event_drain outputs) ∷ [])

-- the text has the line, and where something is sent behind the event, that of the drain
abbrev pub TellsStep : World → World → RecordLine → Bool → Result (List ℕ) WorldStop → Type 0
TellsStep before after line false (Ok written) = (after ≡ before) × (written ≡ ended_lines (record_line line ∷ []))
TellsStep before after line true (Ok written) = DrainTold before after line written
TellsStep before after line false (Err why) = why ≡ stop.OutOfMemory
TellsStep before after line true (Err why) = (why ≡ stop.OutOfMemory) ⊎ Stepped before after (event.Drain line.node event_drain) (Err why)
