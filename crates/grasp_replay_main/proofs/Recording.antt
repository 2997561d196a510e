-- Scripts whose run is recorded.
use Rattle.std.proofs.Common.{ℕ, List, Option}
use Rattle.grasp_laws_audit.specs.Written.{RecordsAreAudited}
use Rattle.grasp_model_audit.specs.RecordRuns.{IsRecordOf}
use Rattle.grasp_replay_main.specs.Record.{Records}
use Rattle.grasp_replay_main.specs.Task.{IsUnfinished, RecordMakes}
use Rattle.grasp_replay_main.specs.Written.{Writes}
use Rattle.grasp_replay_main.specs.declared.exit.Status.TheVariants as status
use Rattle.grasp_replay_main.specs.declared.task.Task.TheVariants.{Record, Replay}
use Rattle.grasp_replay_main.specs.declared.unfinished.Unfinished.{Unfinished}
use Rattle.grasp_replay_main.specs.declared.unfinished.Unfinished.TheVariants as unfinished
use Rattle.grasp_runner.specs.Written as ran

-- a script is read as for `replay`
pub read_as_replay : (input : List ℕ) (u : Unfinished) → IsUnfinished Replay input u → IsUnfinished Record input u
read_as_replay input unfinished.TooLarge h = h
read_as_replay input (unfinished.BadScript line) h = h
read_as_replay input unfinished.TooMuch h = h
read_as_replay input unfinished.OutOfMemory h = h
read_as_replay input unfinished.WriteFault h = h

module _ (law : RecordsAreAudited) (input : List ℕ) where
  records : (output : List ℕ) → IsRecordOf input output → Records input output
  records output r = record { recorded = r; audited = law input output r }

  -- the record of the whole run was written
  pub record_written : (before after : Option (List ℕ)) → ran.Writes (IsRecordOf input) before after → Writes (RecordMakes input) before after status.Ok
  record_written before after w = record { output = w.output; makes = records w.output w.made; written = w.written }
