-- Texts that are records of runs, and the first line at which a text isn't one.
use Rattle.std.specs.Prelude.{◌≡◌, ◌+◌, ◌++◌, ℕ, All, List, ◌∷◌, length}
use Rattle.grasp_model_network.specs.Runs.{world_of, worlds_from}
use Rattle.grasp_model_network.specs.Setting.{script_setting}
use Rattle.grasp_model_network.specs.World.{WorldState}
use Rattle.grasp_model_network.specs.declared.plan.WorldPlan.{WorldPlan}
use Rattle.grasp_script.specs.Scripts.{IsBadLine, IsHeader, text_lines}
use Rattle.grasp_model_script.specs.Safe.{IsSafe}
use Rattle.grasp_model_audit.specs.Faults.{Cause, LineFault}
use Rattle.grasp_model_audit.specs.Lines.{AllHold, AuditedLine, after_lines, run_of, texts_of}

-- ---- from the first network of a plan, in which nothing has happened

-- the lines hold, one after the other
abbrev pub AllHoldOf : WorldPlan → List AuditedLine → Type 0
AllHoldOf plan ys = AllHold plan.nodes (script_setting plan) (world_of plan) ys

-- the network after them
abbrev pub network_of : WorldPlan → List AuditedLine → WorldState
network_of plan ys = after_lines (script_setting plan) (world_of plan) ys

-- each network of the run of their events is safe
abbrev pub AreSafe : WorldPlan → List AuditedLine → Type 0
AreSafe plan ys = All (IsSafe (script_setting plan)) (worlds_from (script_setting plan) (world_of plan) (run_of ys))

-- ---- texts

-- the text is a record: the lines of a script's header, which tells this plan, and these lines, which hold one after the other; so they are
-- what the nodes took and answered in the run of their events, and each network of that run is safe
pub record Audits (text : List ℕ) (plan : WorldPlan) (ys : List AuditedLine) : Type 0 where
  pub header : List (List ℕ)
  pub is_header : IsHeader header plan
  pub parts : text_lines text ≡ header ++ texts_of ys
  pub hold : AllHoldOf plan ys
  pub safe : AreSafe plan ys

-- the text is the record of some run
pub record IsAudited (text : List ℕ) : Type 0 where
  pub plan : WorldPlan
  pub lines : List AuditedLine
  pub audits : Audits text plan lines

-- ---- texts that are no record

-- no script's header stands at the beginning of the text
abbrev pub HasNoHeader : List ℕ → Type 0
HasNoHeader text = (plan : WorldPlan) (header rest : List (List ℕ)) → IsHeader header plan → ¬ (text_lines text ≡ header ++ rest)

-- no header stands there, and this is the number of the first line with which, after the lines before it, none begins, or the number after
-- the last line where the header's end is missing
pub record IsBadHeader (text : List ℕ) (number : ℕ) : Type 0 where
  pub none : HasNoHeader text
  pub place : IsBadLine text number

-- the line of this number, behind the header, fails by this cause, and those between the header and it hold
pub record FailsAt (text : List ℕ) (cause : Cause) (number : ℕ) : Type 0 where
  pub plan : WorldPlan
  pub header : List (List ℕ)
  pub before : List AuditedLine
  pub line : List ℕ
  pub rest : List (List ℕ)
  pub is_header : IsHeader header plan
  pub parts : text_lines text ≡ header ++ (texts_of before ++ line ∷ rest)
  pub hold : AllHoldOf plan before
  pub fault : LineFault plan.nodes (script_setting plan) (network_of plan before) line cause
  pub place : number ≡ length header + length before + 1
