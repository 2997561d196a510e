-- What the code promises of one line of a script.
use Rattle.std.specs.Prelude.{◌≡◌, ◌⊎◌, ℕ, List, length, Result, Ok, Err}
use Rattle.grasp_model_network.specs.Setting.{Setting}
use Rattle.grasp_model_network.specs.Visits.{Choice}
use Rattle.grasp_model_network.specs.World.{WorldState, present_life, seat_at}
use Rattle.grasp_model_network.specs.declared.event.Event.{Event}
use Rattle.grasp_model_network.specs.declared.report.Report.{Report}
use Rattle.grasp_model_network.specs.declared.report.WorldStop.{WorldStop}
use Rattle.grasp_model_network.specs.declared.report.WorldStop.TheVariants as stop
use Rattle.grasp_script.specs.Acts.{IsAct}
use Rattle.grasp_script.specs.declared.line.Line.{Line}
use Rattle.grasp_script.specs.declared.line.LineAct.{LineAct}
use Rattle.grasp_script.specs.declared.line.LineAct.TheVariants as act
use Rattle.grasp_model_script.specs.LineRuns.{MayComeOut, act_told, after_act, event_told, placed_event, seat_told}
use Rattle.grasp_model_script.specs.Stops.{LineOverflows}
use Rattle.grasp_simulator.specs.Contract.{Network, Standing, going, stopped, Reported}
use Rattle.grasp_simulator.specs.WorldStands.{WorldStands}
use Rattle.grasp_simulator.specs.declared.world.World.{World}

-- a network that goes on
abbrev pub network_at : Setting → WorldState → Network
network_at s w = record { setting = s; standing = going w }

-- one that was stopped, and why
abbrev pub stopped_at : Setting → WorldStop → Network
stopped_at s why = record { setting = s; standing = stopped why }

-- the code goes on for this network, and a script of so many nodes as it has can have this line
pub record MeetsLine (code : World) (s : Setting) (w : WorldState) (a : LineAct) : Type 0 where
  pub stands : WorldStands code (network_at s w)
  pub fit : IsAct (length s.members) a

-- the code goes on for a network of which that is so
pub record CanRun (code : World) (a : LineAct) : Type 0 where
  pub setting : Setting
  pub network : WorldState
  pub meets : MeetsLine code setting network a

-- the code stands for a network, which goes on or was stopped, and a script of so many nodes as it has can have this line
pub record CanRunLine (code : World) (a : LineAct) : Type 0 where
  pub setting : Setting
  pub standing : Standing
  pub stands : WorldStands code (record { setting = setting; standing = standing })
  pub fit : IsAct (length setting.members) a

-- ---- where a line isn't reported

-- the line's event sends too much, and the code stands for a network that was stopped for this
pub record IsOverflown (code : World) (s : Setting) (w : WorldState) (a : LineAct) : Type 0 where
  pub overflows : LineOverflows s w a
  pub stands : WorldStands code (stopped_at s stop.TooMuch)

-- the line came out so, and the code stands for the network after it
pub record IsPast (code : World) (s : Setting) (w : WorldState) (a : LineAct) : Type 0 where
  pub choice : Choice
  pub comes : MayComeOut s w a choice
  pub stands : WorldStands code (network_at s (after_act s w a choice))

-- there was no memory: the code stands for the network as it was before the line, for one that was stopped for this, or for that after the line
abbrev pub IsStarved : World → Setting → WorldState → LineAct → Type 0
IsStarved code s w a = WorldStands code (network_at s w) ⊎ (WorldStands code (stopped_at s stop.OutOfMemory) ⊎ IsPast code s w a)

-- why the line isn't reported, and for what the code stands then
abbrev pub LineFails : World → Setting → WorldState → LineAct → WorldStop → Type 0
LineFails code s w a stop.TooMuch = IsOverflown code s w a
LineFails code s w a stop.OutOfMemory = IsStarved code s w a

-- a network that was stopped stays so, and tells this again, or that there was no memory
pub record StaysStopped (code : World) (s : Setting) (why again : WorldStop) : Type 0 where
  pub why_is : (again ≡ why) ⊎ (again ≡ stop.OutOfMemory)
  pub stands : WorldStands code (stopped_at s why)

-- ---- an event

-- Inside: there was no memory for the places of its sessions, or for the event
abbrev pub EventFails : World → Setting → WorldState → Event → WorldStop → Type 0
EventFails code s w e stop.TooMuch = IsOverflown code s w (act.Event e)
EventFails code s w e stop.OutOfMemory = WorldStands code (network_at s w) ⊎ WorldStands code (stopped_at s stop.OutOfMemory)

-- Inside: the event came out so, with the places of its sessions, and the code stands for the network after it; or it failed so
abbrev pub EventAnswers : World → Setting → WorldState → Event → Result Report WorldStop → Type 0
EventAnswers code s w e (Ok report) = Reported (WorldStands code) s w (placed_event w e) report
EventAnswers code s w e (Err why) = EventFails code s w e why

-- Inside: in a network that was stopped no event comes out
abbrev pub StoppedEventAnswers : World → Setting → WorldStop → Result Report WorldStop → Type 0
StoppedEventAnswers code s why (Ok report) = ⊥
StoppedEventAnswers code s why (Err again) = StaysStopped code s why again

-- Inside: for each network for which the code went on, and for each that was stopped
pub record RunsEvent (before after : World) (e : Event) (result : Result Report WorldStop) : Type 0 where
  pub goes : (s : Setting) (w : WorldState) → MeetsLine before s w (act.Event e) → EventAnswers after s w e result
  pub stays : (s : Setting) (why : WorldStop) → WorldStands before (stopped_at s why) → StoppedEventAnswers after s why result

-- ---- a line

-- the line came out so, this is its report, and the code stands for the network after it
pub record LineReported (code : World) (s : Setting) (w : WorldState) (text : List ℕ) (a : LineAct) (told : List ℕ) : Type 0 where
  pub choice : Choice
  pub comes : MayComeOut s w a choice
  pub told_is : told ≡ act_told s w text a choice
  pub stands : WorldStands code (network_at s (after_act s w a choice))

abbrev pub LineAnswers : World → Setting → WorldState → List ℕ → LineAct → Result (List ℕ) WorldStop → Type 0
LineAnswers code s w text a (Ok told) = LineReported code s w text a told
LineAnswers code s w text a (Err why) = LineFails code s w a why

-- in a network that was stopped no event comes out; a look shows something, and leaves it stopped
abbrev pub StoppedShows : World → Setting → WorldStop → LineAct → Type 0
StoppedShows code s why (act.Event e) = ⊥
StoppedShows code s why (act.State node) = WorldStands code (stopped_at s why)

abbrev pub StoppedAnswers : World → Setting → WorldStop → LineAct → Result (List ℕ) WorldStop → Type 0
StoppedAnswers code s why a (Ok told) = StoppedShows code s why a
StoppedAnswers code s why a (Err again) = StaysStopped code s why again

-- for each network for which the code went on, and for each that was stopped
pub record RunsAct (before after : World) (text : List ℕ) (a : LineAct) (result : Result (List ℕ) WorldStop) : Type 0 where
  pub answers : (s : Setting) (w : WorldState) → MeetsLine before s w a → LineAnswers after s w text a result
  pub still : (s : Setting) (why : WorldStop) → WorldStands before (stopped_at s why) → StoppedAnswers after s why a result

abbrev pub RunsLine : World → World → Line → Result (List ℕ) WorldStop → Type 0
RunsLine before after line result = RunsAct before after line.text line.act result

-- ---- the report of a line

-- Inside: the text tells this of an event, or there was no memory
abbrev pub TellsEvent : List ℕ → Report → Result (List ℕ) WorldStop → Type 0
TellsEvent text report (Ok told) = told ≡ event_told text report
TellsEvent text report (Err why) = why ≡ stop.OutOfMemory

-- Inside: it tells this of a node that stands so
abbrev pub LookAnswers : WorldState → List ℕ → ℕ → Result (List ℕ) WorldStop → Type 0
LookAnswers w text node (Ok told) = told ≡ seat_told text (seat_at w (present_life w node))
LookAnswers w text node (Err why) = why ≡ stop.OutOfMemory

-- Inside: for each network for which the code goes on
abbrev pub RunsLook : World → List ℕ → ℕ → Result (List ℕ) WorldStop → Type 0
RunsLook code text node result = (s : Setting) (w : WorldState) → MeetsLine code s w (act.State node) → LookAnswers w text node result
