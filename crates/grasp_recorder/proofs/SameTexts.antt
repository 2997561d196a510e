-- The texts of lines that are the same.
use Rattle.std.proofs.Common.{◌≡◌, subst, ℕ, List, [], ◌∷◌, Result, IfOk}
use Rattle.grasp_cbor.specs.declared.memory.OutOfMemory.{OutOfMemory}
use Rattle.grasp_record.specs.Records.{record_line}
use Rattle.grasp_record.specs.declared.line.RecordLine.{RecordLine}
use Rattle.grasp_model_audit.specs.Recording.{ended_lines}

-- a line's text is that of one that is the same
pub same_line : (line other : RecordLine) (text : Result (List ℕ) OutOfMemory) → line ≡ other → IfOk text (λ t. t ≡ ended_lines (record_line line ∷ [])) → IfOk text (λ t. t ≡ ended_lines (record_line other ∷ []))
same_line line other text is = subst (λ (x : RecordLine). IfOk text (λ t. t ≡ ended_lines (record_line x ∷ []))) is

-- and so it is behind another line
pub same_behind : (step line other : RecordLine) (text : Result (List ℕ) OutOfMemory) → line ≡ other → IfOk text (λ t. t ≡ ended_lines (record_line step ∷ record_line line ∷ []))
    → IfOk text (λ t. t ≡ ended_lines (record_line step ∷ record_line other ∷ []))
same_behind step line other text is = subst (λ (x : RecordLine). IfOk text (λ t. t ≡ ended_lines (record_line step ∷ record_line x ∷ []))) is
