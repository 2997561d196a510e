-- Runs of scripts that send more than may be sent.
use Rattle.std.specs.Prelude.{◌≡◌, ℕ, List, ◌∷◌, ◌++◌}
use Rattle.grasp_model_network.specs.Events.{Overflows}
use Rattle.grasp_model_network.specs.Runs.{world_of}
use Rattle.grasp_model_network.specs.Setting.{Setting, script_setting}
use Rattle.grasp_model_network.specs.World.{WorldState}
use Rattle.grasp_model_network.specs.declared.plan.WorldPlan.{WorldPlan}
use Rattle.grasp_script.specs.Scripts.{IsScript}
use Rattle.grasp_script.specs.declared.line.Line.{Line}
use Rattle.grasp_script.specs.declared.line.LineAct.{LineAct}
use Rattle.grasp_script.specs.declared.line.LineAct.TheVariants as act
use Rattle.grasp_model_script.specs.LineRuns.{LineRun, placed_event}
use Rattle.grasp_model_script.specs.ScriptRuns.{RunsSafely, lines_of, network_after, told_of}

-- the event of a line sends too much in this network; a look sends nothing
abbrev pub LineOverflows : Setting → WorldState → LineAct → Type 0
LineOverflows s w (act.Event e) = Overflows s w (placed_event w e)
LineOverflows s w (act.State node) = ⊥

-- the first of a script's lines were run, and the event of the next one then sends too much
pub record SendsTooMuch (plan : WorldPlan) (lines : List Line) : Type 0 where
  pub run : List LineRun
  pub line : Line
  pub rest : List Line
  pub is_run : lines_of run ++ line ∷ rest ≡ lines
  pub safely : RunsSafely plan run
  pub overflows : LineOverflows (script_setting plan) (network_after (script_setting plan) (world_of plan) run) line.act

-- the event of some line sends too much, and this is the text of the reports of the lines that were run before it
pub record IsStoppedText (plan : WorldPlan) (lines : List Line) (written : List ℕ) : Type 0 where
  pub stops : SendsTooMuch plan lines
  pub told : written ≡ told_of plan stops.run

-- the text is a script whose run sends too much
pub record TextSendsTooMuch (text : List ℕ) : Type 0 where
  pub plan : WorldPlan
  pub lines : List Line
  pub script : IsScript text plan lines
  pub stops : SendsTooMuch plan lines
