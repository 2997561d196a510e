-- What `audit` makes of an input: what it says of the record of a run, or the first line that fails, and why.
use Rattle.std.specs.Prelude.{◌≡◌, ℕ, List, [], ◌∷◌, ◌++◌, Result, Ok, Err, codes}
use Rattle.grasp_model_audit.specs.Verdicts.{IsAudit, IsFault}
use Rattle.grasp_model_audit.specs.declared.verdict.Audit.{Audit}
use Rattle.grasp_model_audit.specs.declared.verdict.AuditFault.{AuditFault}
use Rattle.grasp_model_audit.specs.declared.verdict.AuditFault.TheVariants as cause
use Rattle.grasp_replay_main.specs.Ending.{numbered}
use Rattle.grasp_replay_main.specs.declared.exit.Finding.{Finding}
use Rattle.grasp_replay_main.specs.declared.exit.Finding.TheVariants as finding
use Rattle.grasp_replay_main.specs.declared.exit.Status.{Status}
use Rattle.grasp_replay_main.specs.declared.exit.Status.TheVariants as status
use Rattle.grasp_replay_main.specs.declared.unfinished.Unfinished.{Unfinished}
use Rattle.grasp_replay_main.specs.declared.unfinished.Unfinished.TheVariants as unfinished

-- how many nodes and lines the record of a run has, in a line
abbrev pub safe_line : Audit → List ℕ
safe_line a = numbered (numbered (codes "safe nodes") a.nodes ++ codes " lines") a.lines ++ 10 ∷ []

-- the input is the record of a run, each of whose networks is safe, and the output tells how many nodes and lines it has
pub record Accepts (input output : List ℕ) : Type 0 where
  pub audit : Audit
  pub is_audit : IsAudit input audit
  pub told : output ≡ safe_line audit

-- the finding tells the first line of the input that fails, and the first cause of it
abbrev pub Blames : List ℕ → Finding → Type 0
Blames input (finding.BadRecord line) = IsFault input (cause.BadRecord line)
Blames input (finding.NotSent line) = IsFault input (cause.NotSent line)
Blames input (finding.NotAgent line) = IsFault input (cause.NotAgent line)
Blames input (finding.NotStep line) = IsFault input (cause.NotStep line)
Blames input _ = ⊥

-- with the first line of the input that fails more is sent than may be
abbrev pub IsTooMuch : List ℕ → Type 0
IsTooMuch input = IsFault input cause.TooMuch

-- Inside: how a record that fails so ends the program
abbrev pub refused : AuditFault → Result Status Unfinished
refused (cause.BadRecord line) = Ok (status.Finding (finding.BadRecord line))
refused (cause.NotSent line) = Ok (status.Finding (finding.NotSent line))
refused (cause.NotAgent line) = Ok (status.Finding (finding.NotAgent line))
refused (cause.NotStep line) = Ok (status.Finding (finding.NotStep line))
refused cause.TooMuch = Err unfinished.TooMuch
refused cause.OutOfMemory = Err unfinished.OutOfMemory
