-- The words of an agreement are no other reply's.
use Rattle.std.proofs.Common.{◌≡◌, ℕ, List, [], ◌∷◌, length, Some, None, Err, refl, ap, arith}
use Rattle.std.specs.Prelude.{codes}
use Rattle.grasp_types.specs.declared.objective.Objective.{Objective}
use Rattle.grasp_types.specs.declared.reply.ApiAnswer.{ApiAnswer}
use Rattle.grasp_types.specs.declared.reply.ApiAnswer.TheVariants as answer
use Rattle.grasp_types.specs.declared.reply.Reply.{Reply}
use Rattle.grasp_types.specs.declared.reply.Reply.TheVariants as reply
use Rattle.grasp_types.specs.declared.session.By.{By}
use Rattle.grasp_types.specs.declared.session.By.TheVariants.{Mine, Theirs}
use Rattle.grasp_types.specs.declared.session.Outcome.{Outcome}
use Rattle.grasp_types.specs.declared.session.Outcome.TheVariants as outcome
use Rattle.grasp_types.specs.declared.session.Progress.TheVariants as progress
use Rattle.grasp_text.specs.Line.{objective_words}
use Rattle.grasp_script.specs.Answers.{by_word, outcome_words, answer_words, reply_words}
use Rattle.grasp_script.specs.Reports.{report_words}
use Rattle.grasp_model_network.specs.declared.report.Report.{Report}
use Rattle.grasp_model_network.specs.declared.report.Report.TheVariants as report
use Rattle.grasp_agent.specs.declared.back.ReturnFault.TheVariants as back
use Rattle.grasp_agent.specs.declared.want.WantFault.TheVariants.{Busy}
use Rattle.grasp_laws_reports.specs.Laws.{AgreedWordsTell}
use Rattle.grasp_laws_reports.specs.Outcomes.{reply_in}

-- the first letter of the first word
unfoldable pub first : List (List ℕ) → ℕ
first [] = 0
first ([] ∷ words) = 0
first ((letter ∷ word) ∷ words) = letter

one_by : (a b : By) → by_word a ≡ by_word b → a ≡ b
one_by Mine Mine e = refl
one_by Mine Theirs e = absurd cc
one_by Theirs Mine e = absurd cc
one_by Theirs Theirs e = refl

-- the outcome whose words these are
agreed : (x : Outcome) (by : By) (words : List (List ℕ)) → outcome_words x ≡ codes "agreed" ∷ by_word by ∷ words → (o : Objective) × (x ≡ outcome.Agreed by o) × (words ≡ objective_words o)
unfolding first
agreed (outcome.Agreed own o) by words e =
    let same : own ≡ by = one_by own by (let z : by_word own ≡ by_word by = cc in z) in
    (o, (λ i. outcome.Agreed (same i) o), (let z : words ≡ objective_words o = cc in z))
agreed (outcome.Declined own None) by words e = let z : ◌≡◌ {A = ℕ} 100 97 = ap first e in absurd (omega arith)
agreed (outcome.Declined own (Some reason)) by words e = let z : ◌≡◌ {A = ℕ} 100 97 = ap first e in absurd (omega arith)
agreed (outcome.Synchronized o) by words e = let z : ◌≡◌ {A = ℕ} 115 97 = ap first e in absurd (omega arith)
agreed (outcome.TimedOut deadline now) by words e = let z : ◌≡◌ {A = ℕ} 116 97 = ap first e in absurd (omega arith)
agreed outcome.Broken by words e = let z : ◌≡◌ {A = ℕ} 98 97 = ap first e in absurd (omega arith)
agreed outcome.OutOfMemory by words e = let z : ◌≡◌ {A = ℕ} 111 97 = ap first e in absurd (omega arith)
agreed (outcome.Invalid own) by words e = let z : ◌≡◌ {A = ℕ} 105 97 = ap first e in absurd (omega arith)

-- the answer whose words these are
agreed_answer : (a : ApiAnswer) (by : By) (words : List (List ℕ)) → answer_words a ≡ codes "ended" ∷ codes "agreed" ∷ by_word by ∷ words
    → (o : Objective) × (a ≡ answer.Polled (progress.Ended (outcome.Agreed by o))) × (words ≡ objective_words o)
unfolding first
agreed_answer (answer.Found locators) by words e = let z : ◌≡◌ {A = ℕ} 102 101 = ap first e in absurd (omega arith)
agreed_answer (answer.Incoming handle from o) by words e = let z : ◌≡◌ {A = ℕ} 105 101 = ap first e in absurd (omega arith)
agreed_answer (answer.Polled (progress.Turn o)) by words e = let z : ◌≡◌ {A = ℕ} 116 101 = ap first e in absurd (omega arith)
agreed_answer (answer.Polled (progress.Ended x)) by words e =
    let h = agreed x by words (let z : outcome_words x ≡ codes "agreed" ∷ by_word by ∷ words = cc in z) in
    (h.0, (λ i. answer.Polled (progress.Ended (h.1 i))), h.2)
agreed_answer (answer.Floods reads) by words e = let z : ◌≡◌ {A = ℕ} 102 101 = ap first e in absurd (omega arith)
agreed_answer _ by words e = absurd (omega (arith, ap length e))

-- the reply whose words these are
agreed_reply : (r : Reply) (by : By) (words : List (List ℕ)) → reply_words r ≡ codes "ended" ∷ codes "agreed" ∷ by_word by ∷ words
    → (o : Objective) × (r ≡ reply.Api (answer.Polled (progress.Ended (outcome.Agreed by o)))) × (words ≡ objective_words o)
unfolding first
agreed_reply (reply.Api a) by words e = let h = agreed_answer a by words e in (h.0, (λ i. reply.Api (h.1 i)), h.2)
agreed_reply (reply.Refused refusal) by words e = let z : ◌≡◌ {A = ℕ} 114 101 = ap first e in absurd (omega arith)
agreed_reply (reply.Outputs outputs) by words e = let z : ◌≡◌ {A = ℕ} 115 101 = ap first e in absurd (omega arith)
agreed_reply _ by words e = absurd (omega (arith, ap length e))

-- the report whose words these are
agreed_report : (r : Report) (by : By) (words : List (List ℕ)) → report_words r ≡ codes "ended" ∷ codes "agreed" ∷ by_word by ∷ words
    → (o : Objective) × (reply_in r ≡ Some (reply.Api (answer.Polled (progress.Ended (outcome.Agreed by o))))) × (words ≡ objective_words o)
unfolding first
agreed_report (report.Reply r) by words e = let h = agreed_reply r by words e in (h.0, (λ i. Some (h.1 i)), h.2)
agreed_report (report.Agent call r) by words e = let h = agreed_reply r by words e in (h.0, (λ i. Some (h.1 i)), h.2)
agreed_report (report.Want (Err (Busy least longest))) by words e = let z : ◌≡◌ {A = ℕ} 98 101 = ap first e in absurd (omega arith)
agreed_report (report.Return (Err (back.Busy prefix))) by words e = absurd (omega (arith, ap length e))
agreed_report _ by words e = absurd (omega (arith, ap length e))

pub agreed_words_tell : AgreedWordsTell
agreed_words_tell = record { replies = agreed_reply; reports = agreed_report }
