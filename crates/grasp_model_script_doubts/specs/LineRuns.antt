-- What a line of a script does in a network of doubters: it is an event, a doubter's call, a question, or a look at what a node holds.
use Rattle.std.specs.Prelude.{ℕ, List, [], ◌∷◌, Option, None, Some}
use Rattle.grasp_model_network.specs.Setting.{Setting}
use Rattle.grasp_model_network.specs.Visits.{Choice}
use Rattle.grasp_model_network.specs.World.{WorldState}
use Rattle.grasp_model_network.specs.declared.report.WorldStop.TheVariants as stop
use Rattle.grasp_script.specs.declared.line.LineAct.{LineAct}
use Rattle.grasp_script.specs.declared.line.LineAct.TheVariants.{Event as Happens, State}
use Rattle.grasp_script_doubts.specs.Reports.{told_ask}
use Rattle.grasp_script_doubts.specs.declared.line.DoubtLine.{DoubtLine}
use Rattle.grasp_script_doubts.specs.declared.line.DoubtLineAct.{DoubtLineAct}
use Rattle.grasp_script_doubts.specs.declared.line.DoubtLineAct.TheVariants as act
use Rattle.grasp_model_script.specs.LineRuns.{act_told, event_told, placed_event}
use Rattle.grasp_model_doubts.specs.Events.{DoubtMayStop, DoubtOccurs, doubt_event, doubt_report}
use Rattle.grasp_model_doubts.specs.Runs.{DoubtTurn}
use Rattle.grasp_model_doubts.specs.World.{DoubtState}
use Rattle.grasp_model_doubts.specs.declared.event.DoubtEvent.{DoubtEvent}
use Rattle.grasp_model_doubts.specs.declared.event.DoubtEvent.TheVariants as doubt
use Rattle.grasp_model_doubts.specs.declared.report.DoubtReport.{DoubtReport}
use Rattle.grasp_model_doubts.specs.declared.report.DoubtReport.TheVariants as report

-- ---- the event of a line in this network, with the place of the session that it names; a look is none

abbrev pub plain_event : WorldState → LineAct → Option DoubtEvent
plain_event w (Happens e) = Some (doubt.Plain (placed_event w e))
plain_event w (State node) = None

abbrev pub act_event : WorldState → DoubtLineAct → Option DoubtEvent
act_event w (act.Plain a) = plain_event w a
act_event w (act.Doubter node) = Some (doubt.Doubter node)
act_event w (act.Ask node prefix peer) = Some (doubt.Ask node prefix peer)

-- ---- how it comes out

-- it may come out so
abbrev pub MayHappen : Setting → DoubtState → Option DoubtEvent → Choice → Type 0
MayHappen s x None c = Unit {0}
MayHappen s x (Some e) c = DoubtOccurs s x e c

-- it sends more than may be sent; a look sends nothing
abbrev pub Oversends : Setting → DoubtState → Option DoubtEvent → Type 0
Oversends s x None = ⊥
Oversends s x (Some e) = DoubtMayStop s x e stop.TooMuch

-- the network and the doubters after it; a look changes nothing
abbrev pub state_then : Setting → DoubtState → Option DoubtEvent → Choice → DoubtState
state_then s x None c = x
state_then s x (Some e) c = doubt_event s x e c

-- what happens
abbrev pub turn_of : Option DoubtEvent → Choice → List DoubtTurn
turn_of None c = []
turn_of (Some e) c = record { event = e; choice = c } ∷ []

-- ---- its report

-- the report of an event or a doubter's call, and of a question
unfoldable pub doubt_told : List ℕ → DoubtReport → List ℕ
doubt_told text (report.Plain r) = event_told text r
doubt_told text (report.Ask asked) = told_ask text asked

-- the report, without its line end: as in any script, of a doubter's call as of an agent's, and of a question whether the doubter takes it
abbrev pub doubt_act_told : Setting → DoubtState → List ℕ → DoubtLineAct → Choice → List ℕ
doubt_act_told s x text (act.Plain a) c = act_told s x.world text a c
doubt_act_told s x text (act.Doubter node) c = doubt_told text (doubt_report s x (doubt.Doubter node) c)
doubt_act_told s x text (act.Ask node prefix peer) c = doubt_told text (doubt_report s x (doubt.Ask node prefix peer) c)

-- ---- a line that was run, and how its event came out

pub record DoubtLineRun : Type 0 where
  pub line : DoubtLine
  pub choice : Choice

abbrev pub MayRunDoubts : Setting → DoubtState → DoubtLineRun → Type 0
MayRunDoubts s x l = MayHappen s x (act_event x.world l.line.act) l.choice

abbrev pub after_doubt_line : Setting → DoubtState → DoubtLineRun → DoubtState
after_doubt_line s x l = state_then s x (act_event x.world l.line.act) l.choice

abbrev pub doubt_line_told : Setting → DoubtState → DoubtLineRun → List ℕ
doubt_line_told s x l = doubt_act_told s x l.line.text l.line.act l.choice

-- the line's event sends more than may be sent
abbrev pub DoubtLineOverflows : Setting → DoubtState → DoubtLineAct → Type 0
DoubtLineOverflows s x a = Oversends s x (act_event x.world a)
