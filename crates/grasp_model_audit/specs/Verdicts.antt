-- What an audit says of a text.
use Rattle.std.specs.Prelude.{◌≡◌, ◌⊎◌, ℕ, List, length}
use Rattle.grasp_model_network.specs.declared.report.WorldStop.{WorldStop}
use Rattle.grasp_model_network.specs.declared.report.WorldStop.TheVariants as stop
use Rattle.grasp_script.specs.Scripts.{text_lines}
use Rattle.grasp_model_audit.specs.Audits.{FailsAt, IsAudited, IsBadHeader}
use Rattle.grasp_model_audit.specs.Faults.{bad_record, not_agent, not_sent, not_step, too_much}
use Rattle.grasp_model_audit.specs.declared.verdict.Audit.{Audit}
use Rattle.grasp_model_audit.specs.declared.verdict.AuditFault.{AuditFault}
use Rattle.grasp_model_audit.specs.declared.verdict.AuditFault.TheVariants as fault

-- the text is the record of a run, with so many nodes and lines
pub record IsAudit (text : List ℕ) (a : Audit) : Type 0 where
  pub audited : IsAudited text
  pub nodes : a.nodes ≡ audited.plan.nodes
  pub lines : a.lines ≡ length (text_lines text)

-- the text isn't the record of a run, for this cause at its first line that fails; for want of memory nothing is said
abbrev pub IsFault : List ℕ → AuditFault → Type 0
IsFault text (fault.BadRecord line) = IsBadHeader text line ⊎ FailsAt text bad_record line
IsFault text (fault.NotSent line) = FailsAt text not_sent line
IsFault text (fault.NotAgent line) = FailsAt text not_agent line
IsFault text fault.TooMuch = (line : ℕ) × FailsAt text too_much line
IsFault text (fault.NotStep line) = FailsAt text not_step line
IsFault text fault.OutOfMemory = Unit {0}

-- what a stop of the audit's own network comes to
abbrev pub stop_fault : WorldStop → AuditFault
stop_fault stop.TooMuch = fault.TooMuch
stop_fault stop.OutOfMemory = fault.OutOfMemory
