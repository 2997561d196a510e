-- Inside: the lines behind a record's header, from a network on.
use Rattle.std.specs.Prelude.{◌≡◌, ◌+◌, ℕ, List, ◌∷◌, ◌++◌, length, Result, Ok, Err}
use Rattle.grasp_model_audit.specs.Faults.{Cause, LineFault, bad_record, not_agent, not_sent, not_step, too_much}
use Rattle.grasp_model_audit.specs.Lines.{AllHold, AuditedLine, after_lines, texts_of}
use Rattle.grasp_model_audit.specs.Verdicts.{IsAudit, IsFault}
use Rattle.grasp_model_audit.specs.declared.verdict.Audit.{Audit}
use Rattle.grasp_model_audit.specs.declared.verdict.AuditFault.{AuditFault}
use Rattle.grasp_model_audit.specs.declared.verdict.AuditFault.TheVariants as fault
use Rattle.grasp_model_network.specs.Runs.{world_of}
use Rattle.grasp_model_network.specs.Setting.{Setting, script_setting}
use Rattle.grasp_model_network.specs.World.{WorldState}
use Rattle.grasp_model_network.specs.declared.plan.WorldPlan.{WorldPlan}
use Rattle.grasp_script.specs.Scripts.{text_lines}
use Rattle.grasp_simulator.specs.declared.world.World.{World}
use Rattle.grasp_audit.specs.Standing.{IsAt}

-- all lines of the text hold, and this is the number of the last of them, where so many lines stand before the text
pub record AllHeld (nodes : ℕ) (s : Setting) (w : WorldState) (rest : List ℕ) (number last : ℕ) : Type 0 where
  pub lines : List AuditedLine
  pub parts : text_lines rest ≡ texts_of lines
  pub hold : AllHold nodes s w lines
  pub place : last ≡ number + length lines

-- some lines of the text hold, and the next one, which has this number, fails by this cause
pub record OneFails (nodes : ℕ) (s : Setting) (w : WorldState) (rest : List ℕ) (number : ℕ) (cause : Cause) (last : ℕ) : Type 0 where
  pub before : List AuditedLine
  pub line : List ℕ
  pub others : List (List ℕ)
  pub parts : text_lines rest ≡ texts_of before ++ line ∷ others
  pub hold : AllHold nodes s w before
  pub fault : LineFault nodes s (after_lines s w before) line cause
  pub place : last ≡ number + length before + 1

abbrev pub RestAudited : ℕ → Setting → WorldState → List ℕ → ℕ → Result ℕ AuditFault → Type 0
RestAudited nodes s w rest number (Ok last) = AllHeld nodes s w rest number last
RestAudited nodes s w rest number (Err (fault.BadRecord last)) = OneFails nodes s w rest number bad_record last
RestAudited nodes s w rest number (Err (fault.NotSent last)) = OneFails nodes s w rest number not_sent last
RestAudited nodes s w rest number (Err (fault.NotAgent last)) = OneFails nodes s w rest number not_agent last
RestAudited nodes s w rest number (Err fault.TooMuch) = (last : ℕ) × OneFails nodes s w rest number too_much last
RestAudited nodes s w rest number (Err (fault.NotStep last)) = OneFails nodes s w rest number not_step last
RestAudited nodes s w rest number (Err fault.OutOfMemory) = Unit {0}

-- for each network for which the code goes on
abbrev pub AuditsLines : World → ℕ → List ℕ → ℕ → Result ℕ AuditFault → Type 0
AuditsLines code nodes rest number result = (s : Setting) (w : WorldState) → IsAt code nodes s w → RestAudited nodes s w rest number result

-- from the first network of the plan on
abbrev pub AuditsRest : WorldPlan → List ℕ → ℕ → Result ℕ AuditFault → Type 0
AuditsRest plan rest number result = RestAudited plan.nodes (script_setting plan) (world_of plan) rest number result

-- ---- on the way

-- Inside: the lines of the text before this rest hold, and lead to a network for which the code goes on; this is the number of the last of them
pub record HeldBefore (code : World) (nodes : ℕ) (s : Setting) (w : WorldState) (text rest : List ℕ) (number last : ℕ) : Type 0 where
  pub lines : List AuditedLine
  pub parts : text_lines text ≡ texts_of lines ++ text_lines rest
  pub hold : AllHold nodes s w lines
  pub is_at : IsAt code nodes s (after_lines s w lines)
  pub place : last ≡ number + length lines

-- Inside: from each network on for which the code went on before
abbrev pub AuditsBefore : World → World → ℕ → List ℕ → List ℕ → ℕ → ℕ → Type 0
AuditsBefore before code nodes text rest number last = (s : Setting) (w : WorldState) → IsAt before nodes s w → HeldBefore code nodes s w text rest number last

-- ---- the whole text

abbrev pub TellsVerdict : List ℕ → Result Audit AuditFault → Type 0
TellsVerdict text (Ok a) = IsAudit text a
TellsVerdict text (Err f) = IsFault text f
