-- What is written of a script's run is the record of a run.
use Rattle.std.specs.Prelude.{List, ℕ}
use Rattle.grasp_model_network.specs.Runs.{world_of}
use Rattle.grasp_model_network.specs.Setting.{script_setting}
use Rattle.grasp_model_network.specs.declared.plan.WorldPlan.{WorldPlan}
use Rattle.grasp_model_script.specs.LineRuns.{LineRun}
use Rattle.grasp_model_audit.specs.Audits.{IsAudited}
use Rattle.grasp_model_audit.specs.RecordRuns.{IsRecordOf}
use Rattle.grasp_laws_audit.specs.ReadBack.{AreReadable}
use Rattle.grasp_laws_audit.specs.Recorded.{lines_from}

-- the record lines of a run from the first network of a plan are within the ranges of a record
abbrev pub IsReadableRun : WorldPlan → List LineRun → Type 0
IsReadableRun plan xs = AreReadable plan.nodes (lines_from (script_setting plan) (world_of plan) xs)

-- the record of a script's run is audited, where its lines are within the ranges of a record
abbrev pub RecordsAreAudited : Type 0
RecordsAreAudited = (text written : List ℕ) (r : IsRecordOf text written) → IsReadableRun r.plan r.run → IsAudited written
