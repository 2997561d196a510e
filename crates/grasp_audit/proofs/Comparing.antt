-- Words are compared as texts.
use Rattle.std.proofs.Common.{◌≡◌, ◌↔◌, ℕ, Bool, false, List, [], ◌∷◌, Result, Ok, Err, refl, sym, ap, subst, ◌∙◌, arith}
use Rattle.std.specs.Prelude.{IsTrue, codes, decimal}
use Rattle.std.specs.List.{AllByRecursion}
use Rattle.std.specs.Str.{bytes_eq}
use Rattle.std.proofs.lemmas.Slice.Eq.{bytes_eq-Decides}
use Rattle.grasp_agent.specs.declared.back.ReturnFault.{ReturnFault}
use Rattle.grasp_agent.specs.declared.back.ReturnFault.TheVariants as back
use Rattle.grasp_agent.specs.declared.want.WantFault.{WantFault}
use Rattle.grasp_agent.specs.declared.want.WantFault.TheVariants.{Busy, Full}
use Rattle.grasp_types.specs.declared.call.Call.{Call}
use Rattle.grasp_types.specs.declared.reply.ApiAnswer.{ApiAnswer}
use Rattle.grasp_types.specs.declared.reply.ApiAnswer.TheVariants as api
use Rattle.grasp_types.specs.declared.session.Progress.{Progress}
use Rattle.grasp_types.specs.declared.session.Progress.TheVariants as progress
use Rattle.grasp_types.specs.declared.traffic.Output.{Output}
use Rattle.grasp_types.specs.declared.traffic.Output.TheVariants as output
use Rattle.grasp_text.specs.Words.{words_of, joined, spaced, is_over}
use Rattle.grasp_script.specs.Answers.{answer_words, progress_words}
use Rattle.grasp_script.specs.Calls.{call_words}
use Rattle.grasp_script.specs.Reports.{return_words, want_words}
use Rattle.grasp_record.specs.Answers.{drained_words, told_words}
use Rattle.grasp_record.specs.Dividing.{IsDivided}
use Rattle.grasp_record.specs.Records.{record_line}
use Rattle.grasp_record.specs.declared.line.RecordAnswer.{RecordAnswer}
use Rattle.grasp_record.specs.declared.line.RecordAnswer.TheVariants as answer
use Rattle.grasp_record.specs.declared.line.RecordInput.TheVariants as took
use Rattle.grasp_record.specs.declared.line.RecordLine.{RecordLine}
use Rattle.grasp_audit.specs.Numbers.{CallFits, OutputFits}
use Rattle.grasp_audit.specs.Told.{IsWritten, line_of_drain}
use Rattle.grasp_audit.proofs.Blanks.{AreUnbroken, behind_unbroken, calls, drain_words, drains, parts_unbroken}
use Rattle.grasp_audit.proofs.Dividing.{asked_words, same_words, spaced_joined, words_again, words_divided}
use Rattle.grasp_audit.proofs.Signs.{number, signless}

-- ---- an answer has a word

progress_some : (p : Progress) → is_over (progress_words p) ≡ false
progress_some progress.NotYet = refl
progress_some (progress.Turn o) = refl
progress_some (progress.Ended o) = refl

api_some : (a : ApiAnswer) → is_over (answer_words a) ≡ false
api_some (api.Asa n) = refl
api_some api.Done = refl
api_some (api.Started handle) = refl
api_some api.Searching = refl
api_some (api.Found ls) = refl
api_some api.Nothing = refl
api_some api.NotYet = refl
api_some (api.Incoming handle from o) = refl
api_some (api.Polled p) = progress_some p
api_some (api.Floods rs) = refl

want_some : (r : Result (Unit {0}) WantFault) → is_over (want_words r) ≡ false
want_some (Ok u) = refl
want_some (Err (Busy shortest longest)) = refl
want_some (Err Full) = refl

return_some : (r : Result (Unit {0}) ReturnFault) → is_over (return_words r) ≡ false
return_some (Ok u) = refl
return_some (Err (back.Busy prefix)) = refl
return_some (Err back.NotFree) = refl
return_some (Err back.Full) = refl

drained_some : (os : List Output) → is_over (drained_words os) ≡ false
drained_some [] = refl
drained_some (output.Datagram link to b ∷ os) = refl
drained_some (output.Dial stream to ∷ os) = refl
drained_some (output.Send stream b ∷ os) = refl
drained_some (output.Close stream ∷ os) = refl

told_some : (a : RecordAnswer) → is_over (told_words a) ≡ false
told_some (answer.Api a) = api_some a
told_some (answer.Refused r) = refl
told_some (answer.Want taken) = want_some taken
told_some (answer.Return taken) = return_some taken
told_some answer.Taken = refl
told_some answer.Turned = refl
told_some (answer.Outputs outputs) = drained_some outputs

spaced_some : (ws : List (List ℕ)) → is_over ws ≡ false → spaced ws ≡ 32 ∷ joined ws
spaced_some [] e = absurd cc
spaced_some (w ∷ ws) e = spaced_joined w ws

-- ---- two texts

-- the texts of words are the same where the words are
module _ (vs ws : List (List ℕ)) (one : AreUnbroken vs) (other : AreUnbroken ws) (first second : List ℕ) (p : first ≡ spaced vs) (q : second ≡ spaced ws) (is_so : Bool) (is : is_so ≡ bytes_eq first second) where
  words_then : IsTrue is_so → vs ≡ ws
  words_then equal = same_words vs ws one other (sym p ∙ (bytes_eq-Decides first second).0 (sym is ∙ equal) ∙ q)

  texts_then : vs ≡ ws → IsTrue is_so
  texts_then same = is ∙ (bytes_eq-Decides first second).1 (p ∙ ap spaced same ∙ sym q)

  pub compared : IsTrue is_so ↔ (vs ≡ ws)
  compared = (words_then, texts_then)

-- ---- the text of a line

-- what the code cuts off at a line's answer
abbrev pub IsToldPart : List ℕ → List ℕ → Type 0
IsToldPart line part = (us vs : List (List ℕ)) → IsDivided (words_of line) us vs → part ≡ 32 ∷ joined vs

written_divided : (line : List ℕ) (x : RecordLine) → IsWritten line x → IsDivided (words_of line) (asked_words x) (told_words x.answer)
written_divided line x w = subst (λ (ws : List (List ℕ)). IsDivided ws (asked_words x) (told_words x.answer)) (sym w.is_line.spelled) (words_divided w.nodes w.few x w.is_line.ranges (told_some x.answer))

part_is : (line part : List ℕ) (x : RecordLine) → IsWritten line x → IsToldPart line part → part ≡ spaced (told_words x.answer)
part_is line part x w h = h (asked_words x) (told_words x.answer) (written_divided line x w) ∙ sym (spaced_some (told_words x.answer) (told_some x.answer))

answer_unbroken : (line : List ℕ) (x : RecordLine) → IsWritten line x → AreUnbroken (told_words x.answer)
answer_unbroken line x w =
    behind_unbroken (codes "=" ∷ []) (told_words x.answer) (behind_unbroken (asked_words x) (codes "=" ∷ told_words x.answer) (subst AreUnbroken w.is_line.spelled (parts_unbroken line)))

-- the words are those of the line's answer where their text is what stands there
pub tells : (line told part : List ℕ) (words : List (List ℕ)) (is_so : Bool) → AreUnbroken words → told ≡ spaced words → IsToldPart line part → is_so ≡ bytes_eq told part
    → (x : RecordLine) → IsWritten line x → IsTrue is_so ↔ (words ≡ told_words x.answer)
tells line told part words is_so whole is cut same x w = compared words (told_words x.answer) whole (answer_unbroken line x w) told part is (part_is line part x w cut) is_so same

-- ---- a drain's own line

drain_divided : (os : List Output) → AllByRecursion OutputFits os → IsDivided (words_of (record_line (line_of_drain os))) (asked_words (line_of_drain os)) (drained_words os)
drain_divided os fits =
    subst (λ (ws : List (List ℕ)). IsDivided ws (asked_words (line_of_drain os)) (drained_words os)) (sym (words_again (decimal 1) _ (drain_words 1 0 0 os (omega arith) (omega arith) (omega arith) fits)))
    (record { parts = refl; before = refl; behind = drained_some os; first = (number 0 (omega arith), signless 1 (omega arith) (took.Drain 0) (omega arith)) })

-- the outputs are, in words, what the line says where the answers of the two lines are the same text
pub drains_tell : (own line front part : List ℕ) (os : List Output) (is_so : Bool) → AllByRecursion OutputFits os → own ≡ record_line (line_of_drain os) → IsToldPart own front → IsToldPart line part → is_so ≡ bytes_eq front part
    → (x : RecordLine) → IsWritten line x → IsTrue is_so ↔ (drained_words os ≡ told_words x.answer)
drains_tell own line front part os is_so fits is mine cut same x w = tells line front part (drained_words os) is_so (drains os fits) front_is cut same x w where
  front_is : front ≡ spaced (drained_words os)
  front_is =
      mine (asked_words (line_of_drain os)) (drained_words os) (subst (λ (l : List ℕ). IsDivided (words_of l) (asked_words (line_of_drain os)) (drained_words os)) (sym is) (drain_divided os fits))
      ∙ sym (spaced_some (drained_words os) (drained_some os))

-- ---- two calls

pub same_calls : (a b : Call) (first second : List ℕ) (is_so : Bool) → CallFits a → CallFits b → first ≡ spaced (call_words a) → second ≡ spaced (call_words b) → is_so ≡ bytes_eq first second
    → IsTrue is_so ↔ (call_words a ≡ call_words b)
same_calls a b first second is_so h k p q is = compared (call_words a) (call_words b) (calls a h) (calls b k) first second p q is_so is
