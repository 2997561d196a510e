-- The record of a script's run.
use Rattle.std.specs.Prelude.{◌≡◌, ◌++◌, ℕ, List, [], ◌∷◌}
use Rattle.std.specs.List.{AllByRecursion}
use Rattle.grasp_model_network.specs.Runs.{world_of}
use Rattle.grasp_model_network.specs.Setting.{Setting, script_setting}
use Rattle.grasp_model_network.specs.World.{WorldState}
use Rattle.grasp_model_network.specs.declared.plan.WorldPlan.{WorldPlan}
use Rattle.grasp_script.specs.Scripts.{IsHeader, IsItsLine, texts, text_lines}
use Rattle.grasp_script.specs.declared.line.Line.{Line}
use Rattle.grasp_model_script.specs.LineRuns.{LineRun, after_line}
use Rattle.grasp_model_script.specs.ScriptRuns.{RunsSafely, lines_of}
use Rattle.grasp_model_script.specs.Stops.{SendsTooMuch}
use Rattle.grasp_model_audit.specs.Recording.{ended_lines, line_recorded}

-- the record lines of lines of a script, from this network on
unfoldable pub recorded_from : Setting → WorldState → List LineRun → List ℕ
recorded_from s w [] = []
recorded_from s w (x ∷ xs) = line_recorded s w x ++ recorded_from s (after_line s w x) xs

-- the lines of the header as they stand, and the record lines of the lines that were run
abbrev pub record_of : List (List ℕ) → WorldPlan → List LineRun → List ℕ
record_of header plan run = ended_lines header ++ recorded_from (script_setting plan) (world_of plan) run

-- the text is a script with this header and these lines
pub record IsScriptOf (text : List ℕ) (header : List (List ℕ)) (plan : WorldPlan) (lines : List Line) : Type 0 where
  pub is_header : IsHeader header plan
  pub meant : AllByRecursion (IsItsLine plan.nodes) lines
  pub parts : text_lines text ≡ header ++ texts lines

-- the script that the text is was run, and this is the record of its run
pub record IsRecordOf (text written : List ℕ) : Type 0 where
  pub header : List (List ℕ)
  pub plan : WorldPlan
  pub lines : List Line
  pub script : IsScriptOf text header plan lines
  pub run : List LineRun
  pub is_run : lines_of run ≡ lines
  pub safely : RunsSafely plan run
  pub told : written ≡ record_of header plan run

-- the first of the script's lines were run, up to these, and this is the record of their run
pub record BeginsRecordOf (text written : List ℕ) : Type 0 where
  pub header : List (List ℕ)
  pub plan : WorldPlan
  pub lines : List Line
  pub rest : List Line
  pub script : IsScriptOf text header plan lines
  pub run : List LineRun
  pub is_run : lines_of run ++ rest ≡ lines
  pub safely : RunsSafely plan run
  pub told : written ≡ record_of header plan run

-- the event of some line sends too much, and this is the record of the lines that were run before it
pub record IsStoppedRecordOf (text written : List ℕ) : Type 0 where
  pub header : List (List ℕ)
  pub plan : WorldPlan
  pub lines : List Line
  pub script : IsScriptOf text header plan lines
  pub stops : SendsTooMuch plan lines
  pub told : written ≡ record_of header plan stops.run
