-- Laws of records of runs.
use Rattle.std.specs.Prelude.{◌≡◌, ◌≢◌, ℕ, List, map}
use Rattle.grasp_model_network.specs.Plans.{IsGoodPlan}
use Rattle.grasp_model_network.specs.Runs.{IsRun, world_after, world_of}
use Rattle.grasp_model_network.specs.Setting.{Setting, script_setting}
use Rattle.grasp_model_network.specs.World.{WorldState}
use Rattle.grasp_model_network.specs.declared.plan.WorldPlan.{WorldPlan}
use Rattle.grasp_laws_reports.specs.Agree.{IsSameRun}
use Rattle.grasp_record.specs.declared.line.RecordLine.{RecordLine}
use Rattle.grasp_model_audit.specs.Audits.{AllHoldOf, AreSafe, Audits, IsAudited}
use Rattle.grasp_model_audit.specs.Lines.{AllHold, AuditedLine, after_lines, run_of}
use Rattle.grasp_model_audit.specs.Verdicts.{IsFault}
use Rattle.grasp_model_audit.specs.declared.verdict.AuditFault.{AuditFault}
use Rattle.grasp_model_audit.specs.declared.verdict.AuditFault.TheVariants as fault

-- ---- runs

pub record AuditedRunsAreSafe : Type 0 where
  -- the events of lines that hold are a run
  pub run : (nodes : ℕ) (s : Setting) (w : WorldState) (ys : List AuditedLine) → AllHold nodes s w ys → IsRun s w (run_of ys)
  -- the network after the lines is the last of that run
  pub last : (s : Setting) (w : WorldState) (ys : List AuditedLine) → after_lines s w ys ≡ world_after s w (run_of ys)
  -- from the first network of a good plan on, each network of the run is safe
  pub safe : (plan : WorldPlan) (ys : List AuditedLine) → IsGoodPlan plan → AllHoldOf plan ys → AreSafe plan ys

-- ---- verdicts

-- what the lines mean
abbrev pub meanings_of : List AuditedLine → List RecordLine
meanings_of ys = map (λ y. y.meant) ys

-- the lines of two audits mean the same, and their events are reported the same and lead through the same networks
pub record IsSameAudit (plan : WorldPlan) (ys zs : List AuditedLine) : Type 0 where
  pub meanings : meanings_of ys ≡ meanings_of zs
  pub runs : IsSameRun (script_setting plan) (world_of plan) (run_of ys) (run_of zs)

-- two audits of a text are the same
pub record AreSameAudits (p q : WorldPlan) (ys zs : List AuditedLine) : Type 0 where
  pub plans : p ≡ q
  pub lines : IsSameAudit p ys zs

-- a text has one verdict
pub record AuditsAgree : Type 0 where
  -- it is the record of one run
  pub audits : (text : List ℕ) (p q : WorldPlan) (ys zs : List AuditedLine) → Audits text p ys → Audits text q zs → AreSameAudits p q ys zs
  -- or it has one fault
  pub faults : (text : List ℕ) (a b : AuditFault) → IsFault text a → IsFault text b → a ≢ fault.OutOfMemory → b ≢ fault.OutOfMemory → a ≡ b
  -- and not both
  pub either : (text : List ℕ) (a : AuditFault) → IsAudited text → IsFault text a → a ≡ fault.OutOfMemory
