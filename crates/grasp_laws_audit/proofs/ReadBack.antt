-- A record line is read back with the words that it was written in.
use Rattle.std.proofs.Common.{◌≡◌, refl, ap, subst, ℕ, ◌≤◌, List, ◌∷◌, ◌++◌, Some, None}
use Rattle.std.specs.Prelude.{codes, decimal}
use Rattle.grasp_types.specs.declared.call.Call.{Call}
use Rattle.grasp_types.specs.declared.call.Call.TheVariants as call
use Rattle.grasp_types.specs.declared.message.Verdict.TheVariants as verdict
use Rattle.grasp_types.specs.declared.reply.ApiAnswer.{ApiAnswer}
use Rattle.grasp_types.specs.declared.reply.ApiAnswer.TheVariants as api
use Rattle.grasp_text.specs.Words.{joined}
use Rattle.grasp_script.specs.Answers.{answer_words}
use Rattle.grasp_script.specs.Calls.{call_words}
use Rattle.grasp_model_network.specs.World.{WorldState}
use Rattle.grasp_model_script.specs.LineRuns.{placed_call}
use Rattle.grasp_record.specs.Answers.{told_words}
use Rattle.grasp_record.specs.Inputs.{input_words}
use Rattle.grasp_record.specs.Laws.{EachRecordHasOneLine}
use Rattle.grasp_record.specs.Records.{IsRecord, IsRecordLine, record_line, record_words}
use Rattle.grasp_record.specs.declared.line.RecordAnswer.{RecordAnswer}
use Rattle.grasp_record.specs.declared.line.RecordAnswer.TheVariants as answer
use Rattle.grasp_record.specs.declared.line.RecordInput.{RecordInput}
use Rattle.grasp_record.specs.declared.line.RecordInput.TheVariants as took
use Rattle.grasp_record.specs.declared.line.RecordLine.{RecordLine}
use Rattle.grasp_laws_audit.specs.ReadBack.{answer_read, api_read, call_read, input_read, read_back}

pub call_same : (c : Call) → call_words (call_read c) ≡ call_words c
call_same (call.EndNegotiate h verdict.Accept) = refl
call_same (call.EndNegotiate h (verdict.Decline None)) = refl
call_same (call.EndNegotiate h (verdict.Decline (Some reason))) = refl
call_same (call.NegotiateStep h value) = refl
call_same (call.NegotiateWait h millis) = refl
call_same (call.SendInvalid h detail) = refl
call_same (call.Poll h) = refl
call_same _ = refl

-- a session's place is found again by its number
pub placed_again : (w : WorldState) (life : ℕ) (c : Call) → placed_call w life (call_read (placed_call w life c)) ≡ placed_call w life c
placed_again w life (call.NegotiateStep h value) = refl
placed_again w life (call.NegotiateWait h millis) = refl
placed_again w life (call.EndNegotiate h verdict) = refl
placed_again w life (call.SendInvalid h detail) = refl
placed_again w life (call.Poll h) = refl
placed_again w life _ = refl

pub input_same : (i : RecordInput) → input_words (input_read i) ≡ input_words i
input_same (took.Api asa c) = ap (λ (ws : List (List ℕ)). codes "api" ∷ decimal asa ∷ ws) (call_same c)
input_same (took.Agent c) = ap (λ (ws : List (List ℕ)). codes "agent" ∷ ws) (call_same c)
input_same _ = refl

api_same : (a : ApiAnswer) → answer_words (api_read a) ≡ answer_words a
api_same (api.Started h) = refl
api_same (api.Incoming h from objective) = refl
api_same _ = refl

pub answer_same : (a : RecordAnswer) → told_words (answer_read a) ≡ told_words a
answer_same (answer.Api a) = api_same a
answer_same _ = refl

words_same : (y : RecordLine) → record_words (read_back y) ≡ record_words y
words_same y = (λ i. decimal y.node ∷ decimal y.now ∷ (input_same y.input i ++ codes "=" ∷ answer_same y.answer i))

pub line_same : (y : RecordLine) → record_line (read_back y) ≡ record_line y
line_same y = ap joined (words_same y)

-- what is written of it means it
pub is_read : EachRecordHasOneLine → (nodes : ℕ) → nodes ≤ 255 → (y : RecordLine) → IsRecord nodes (read_back y) → IsRecordLine nodes (record_line y) (read_back y)
is_read each nodes few y r = subst (λ (line : List ℕ). IsRecordLine nodes line (read_back y)) (line_same y) (each nodes (read_back y) few r).0
