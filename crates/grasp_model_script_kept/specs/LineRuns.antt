-- What a line of a script does in a network whose nodes crash: it is an event, a crash, or a look at what a node holds.
use Rattle.std.specs.Prelude.{ℕ, List, [], ◌∷◌, Option, None, Some}
use Rattle.grasp_model_network.specs.Setting.{Setting}
use Rattle.grasp_model_network.specs.Visits.{Choice}
use Rattle.grasp_model_network.specs.World.{WorldState}
use Rattle.grasp_script.specs.declared.line.LineAct.{LineAct}
use Rattle.grasp_script.specs.declared.line.LineAct.TheVariants as act
use Rattle.grasp_script_kept.specs.Reports.{told_restart}
use Rattle.grasp_script_kept.specs.declared.line.KeptLine.{KeptLine}
use Rattle.grasp_script_kept.specs.declared.line.KeptLine.TheVariants as line
use Rattle.grasp_model_script.specs.LineRuns.{act_told, placed_event}
use Rattle.grasp_model_kept.specs.Crashing.{image_left}
use Rattle.grasp_model_kept.specs.Runs.{KeptHappening, KeptOccurs, KeptOverflows, kept_event}
use Rattle.grasp_model_kept.specs.World.{KeptState}
use Rattle.grasp_model_kept.specs.declared.event.KeptEvent.{KeptEvent}
use Rattle.grasp_model_kept.specs.declared.event.KeptEvent.TheVariants as kept

-- ---- the event of a line in this network, with the place of the session that it names; a look is none

abbrev pub act_event : WorldState → LineAct → Option KeptEvent
act_event w (act.Event e) = Some (kept.Plain (placed_event w e))
act_event w (act.State node) = None

abbrev pub line_event : WorldState → KeptLine → Option KeptEvent
line_event w (line.Plain x) = act_event w x.act
line_event w (line.Crash text node calls left) = Some (kept.Crash node calls left)

-- ---- how it comes out

-- it may come out so
abbrev pub MayHappen : Setting → KeptState → Option KeptEvent → Choice → Type 0
MayHappen s k None c = Unit {0}
MayHappen s k (Some e) c = KeptOccurs s k e c

-- it sends more than may be sent; a look sends nothing
abbrev pub Oversends : Setting → KeptState → Option KeptEvent → Type 0
Oversends s k None = ⊥
Oversends s k (Some e) = KeptOverflows s k e

-- the network and the disks after it; a look changes nothing
abbrev pub state_then : Setting → KeptState → Option KeptEvent → Choice → KeptState
state_then s k None c = k
state_then s k (Some e) c = kept_event s k e c

-- what happens
abbrev pub happening_of : Option KeptEvent → Choice → List KeptHappening
happening_of None c = []
happening_of (Some e) c = record { event = e; choice = c } ∷ []

-- the report, without its line end: as in any script, and of a crash the image with which the node begins anew
abbrev pub kept_told : Setting → KeptState → KeptLine → Choice → List ℕ
kept_told s k (line.Plain x) c = act_told s k.world x.text x.act c
kept_told s k (line.Crash text node calls left) c = told_restart text (image_left s k node calls left c)

-- ---- a line that was run, and how its event came out

pub record KeptLineRun : Type 0 where
  pub line : KeptLine
  pub choice : Choice

abbrev pub MayRunKept : Setting → KeptState → KeptLineRun → Type 0
MayRunKept s k x = MayHappen s k (line_event k.world x.line) x.choice

abbrev pub after_kept_line : Setting → KeptState → KeptLineRun → KeptState
after_kept_line s k x = state_then s k (line_event k.world x.line) x.choice

abbrev pub kept_line_told : Setting → KeptState → KeptLineRun → List ℕ
kept_line_told s k x = kept_told s k x.line x.choice

-- the line's event sends more than may be sent
abbrev pub KeptLineOverflows : Setting → KeptState → KeptLine → Type 0
KeptLineOverflows s k x = Oversends s k (line_event k.world x)
