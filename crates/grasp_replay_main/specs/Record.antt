-- What `record` makes of an input: the record of the run of the script that the input is.
use Rattle.std.specs.Prelude.{ℕ, List}
use Rattle.grasp_laws_audit.specs.Written.{IsReadableRun}
use Rattle.grasp_model_audit.specs.Audits.{IsAudited}
use Rattle.grasp_model_audit.specs.RecordRuns.{IsRecordOf}

-- the input is a script, which was run, and the output is the record of its run; an audit of it finds so, where its lines are within the ranges of a
-- record
pub record Records (input output : List ℕ) : Type 0 where
  pub recorded : IsRecordOf input output
  pub audited : IsReadableRun recorded.plan recorded.run → IsAudited output
