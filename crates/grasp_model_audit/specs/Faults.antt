-- Why a line of a record fails, the first cause that it has.
use Rattle.std.specs.Prelude.{◌≡◌, ℕ, List, None}
use Rattle.grasp_model_network.specs.Events.{Overflows}
use Rattle.grasp_model_network.specs.Runs.{Happening, IsRun, events_of, world_after}
use Rattle.grasp_model_network.specs.Setting.{Setting}
use Rattle.grasp_model_network.specs.World.{WorldState}
use Rattle.grasp_model_network.specs.declared.event.Event.{Event}
use Rattle.grasp_record.specs.Answers.{told_words}
use Rattle.grasp_record.specs.declared.line.RecordLine.{RecordLine}
use Rattle.grasp_model_audit.specs.Lines.{Asks, ComesTo, Means, Names, last_answered}
use Rattle.grasp_model_audit.specs.Naming.{IsOfAgent, clock_before, event_named}

-- the line means nothing here: it is none of a record of so many nodes, or its reading is below its node's
abbrev pub MeansNothing : ℕ → WorldState → List ℕ → Type 0
MeansNothing nodes w line = (x : RecordLine) → ¬ Means nodes w line x

-- it means something, but what it says that came in wasn't sent there, or isn't what comes there next
pub record IsNotSent (nodes : ℕ) (s : Setting) (w : WorldState) (line : List ℕ) : Type 0 where
  pub meant : RecordLine
  pub means : Means nodes w line meant
  pub unsent : event_named s w meant ≡ None

-- it names an event, but the node's own agent makes another call next
pub record IsNotOfAgent (nodes : ℕ) (s : Setting) (w : WorldState) (line : List ℕ) : Type 0 where
  pub meant : RecordLine
  pub event : Event
  pub names : Names nodes s w line meant event
  pub other : ¬ IsOfAgent w meant.node meant.input

-- it asks for an event, but with that event more is sent than may be
pub record LineOverflows (nodes : ℕ) (s : Setting) (w : WorldState) (line : List ℕ) : Type 0 where
  pub meant : RecordLine
  pub event : Event
  pub asks : Asks nodes s w line meant event
  pub clock : List Happening
  pub is_clock : events_of clock ≡ clock_before w meant
  pub run : IsRun s w clock
  pub overflows : Overflows s (world_after s w clock) event

-- its events come out, but the last of them is answered otherwise
pub record IsNotStep (nodes : ℕ) (s : Setting) (w : WorldState) (line : List ℕ) : Type 0 where
  pub meant : RecordLine
  pub event : Event
  pub asks : Asks nodes s w line meant event
  pub happened : List Happening
  pub comes : ComesTo s w meant event happened
  pub other : ¬ (last_answered s w happened ≡ told_words meant.answer)

-- the causes, in order
pub data Cause : Type 0 where
  bad_record : Cause
  not_sent : Cause
  not_agent : Cause
  too_much : Cause
  not_step : Cause

-- the line fails in this network by this cause, and by none before it
abbrev pub LineFault : ℕ → Setting → WorldState → List ℕ → Cause → Type 0
LineFault nodes s w line bad_record = MeansNothing nodes w line
LineFault nodes s w line not_sent = IsNotSent nodes s w line
LineFault nodes s w line not_agent = IsNotOfAgent nodes s w line
LineFault nodes s w line too_much = LineOverflows nodes s w line
LineFault nodes s w line not_step = IsNotStep nodes s w line
