-- What is recorded holds.
use Rattle.std.specs.Prelude.{◌≡◌, ◌++◌, ℕ, List, [], ◌∷◌, map}
use Rattle.grasp_model_network.specs.Plans.{IsGoodPlan}
use Rattle.grasp_model_network.specs.Runs.{IsReached, world_of}
use Rattle.grasp_model_network.specs.Setting.{Setting, script_setting}
use Rattle.grasp_model_network.specs.Visits.{Choice}
use Rattle.grasp_model_network.specs.World.{WorldState}
use Rattle.grasp_model_network.specs.declared.plan.WorldPlan.{WorldPlan}
use Rattle.grasp_script.specs.Scripts.{IsHeader, text_lines}
use Rattle.grasp_script.specs.declared.line.LineAct.{LineAct}
use Rattle.grasp_model_script.specs.LineRuns.{LineRun, MayComeOut, after_act, after_line}
use Rattle.grasp_model_script.specs.ScriptRuns.{MayRunAll, network_after}
use Rattle.grasp_record.specs.Records.{record_line}
use Rattle.grasp_record.specs.declared.line.RecordLine.{RecordLine}
use Rattle.grasp_model_audit.specs.Audits.{IsAudited}
use Rattle.grasp_model_audit.specs.Lines.{AllHold, AuditedLine, after_lines, texts_of}
use Rattle.grasp_model_audit.specs.Recording.{act_lines}
use Rattle.grasp_laws_audit.specs.ReadBack.{AreReadable, read_back}

-- the record lines of lines of a script, from this network on
unfoldable pub lines_from : Setting → WorldState → List LineRun → List RecordLine
lines_from s w [] = []
lines_from s w (x ∷ xs) = act_lines s w x.line.act x.choice ++ lines_from s (after_line s w x) xs

abbrev pub meant_by : List AuditedLine → List RecordLine
meant_by [] = []
meant_by (y ∷ ys) = y.meant ∷ meant_by ys

-- the record lines, as they are written, hold one after the other from this network on, each meaning what it is read back as, and lead to that one
pub record HoldAs (nodes : ℕ) (s : Setting) (w : WorldState) (ys : List RecordLine) (x : WorldState) : Type 0 where
  pub audited : List AuditedLine
  pub texts : texts_of audited ≡ map record_line ys
  pub meant : meant_by audited ≡ map read_back ys
  pub hold : AllHold nodes s w audited
  pub last : after_lines s w audited ≡ x

pub record RecordLinesHold : Type 0 where
  -- however a line of a script comes out in a network of its plan, its record lines hold, where they are within the ranges of a record, and lead to
  -- the network after the line
  pub acts : (plan : WorldPlan) (w : WorldState) (a : LineAct) (c : Choice) → IsGoodPlan plan → IsReached (script_setting plan) w → MayComeOut (script_setting plan) w a c
      → AreReadable plan.nodes (act_lines (script_setting plan) w a c) → HoldAs plan.nodes (script_setting plan) w (act_lines (script_setting plan) w a c) (after_act (script_setting plan) w a c)
  -- so do those of lines, one after the other, from the first network of the plan on
  pub runs : (plan : WorldPlan) (xs : List LineRun) → IsGoodPlan plan → MayRunAll (script_setting plan) (world_of plan) xs
      → AreReadable plan.nodes (lines_from (script_setting plan) (world_of plan) xs)
      → HoldAs plan.nodes (script_setting plan) (world_of plan) (lines_from (script_setting plan) (world_of plan) xs) (network_after (script_setting plan) (world_of plan) xs)
  -- and a text whose lines are a header and these is the record of a run
  pub texts : (text : List ℕ) (header : List (List ℕ)) (plan : WorldPlan) (xs : List LineRun) → IsHeader header plan → MayRunAll (script_setting plan) (world_of plan) xs
      → AreReadable plan.nodes (lines_from (script_setting plan) (world_of plan) xs)
      → text_lines text ≡ header ++ map record_line (lines_from (script_setting plan) (world_of plan) xs) → IsAudited text
