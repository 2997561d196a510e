-- Lines and words of answers.
use Rattle.std.proofs.Common.{◌≡◌, ℕ, List, [], ◌∷◌, ◌++◌, sym, ap, ◌∙◌, Result, Ok, Err}
use Rattle.std.specs.Prelude.{OnOk}
use Rattle.std.proofs.lemmas.List.{append-nil}
use Rattle.grasp_control.specs.Answers.{echo}
use Rattle.grasp_crew.specs.declared.servant.Servant.{Servant}
use Rattle.grasp_text.proofs.Pushed.{some_pushed}
use Rattle.grasp_text.specs.Words.{spaced}
use Rattle.grasp_service_visits.specs.Answers.{words_of_answer}
use Rattle.grasp_service_visits.specs.Parts.{Shows, Answers}
use Rattle.grasp_service_visits.specs.declared.answer.Answer.{Answer}
use Rattle.grasp_service_visits.specs.declared.answer.Answer.TheVariants.{Wants, Reads, Counters}

-- a line, `=` and words
pub line_made : (a b c d line w : List ℕ) (ws : List (List ℕ)) → a ≡ [] → b ≡ a ++ echo line → c ≡ b ++ spaced (w ∷ []) → d ≡ c ++ spaced ws
    → d ≡ echo line ++ spaced (w ∷ ws)
line_made a b c d line w ws p q r s = some_pushed b c d (w ∷ []) ws r s ∙ ap (λ x. x ++ spaced (w ∷ ws)) (q ∙ ap (λ x. x ++ echo line) p)

-- words of an answer that are known, and words that are shown
pub answers_known : (crew : List Servant) (x : Answer) (old new : List ℕ) → new ≡ old ++ spaced (words_of_answer crew [] x) → Answers crew x old new
answers_known crew x old new e = record { shown = []; is = e }

pub answers_wants : (crew : List Servant) (old new : List ℕ) → Shows old new → Answers crew Wants old new
answers_wants crew old new p = record { shown = p.words; is = p.is }

pub answers_reads : (crew : List Servant) (old new : List ℕ) → Shows old new → Answers crew Reads old new
answers_reads crew old new p = record { shown = p.words; is = p.is }

pub answers_counters : (crew : List Servant) (old new : List ℕ) → Shows old new → Answers crew Counters old new
answers_counters crew old new p = record { shown = p.words; is = p.is }

-- no words, some words, and more
pub shows_none : (a : List ℕ) → Shows a a
shows_none a = record { words = []; is = sym (append-nil a) }

shows_some : (a b : List ℕ) (ws : List (List ℕ)) → b ≡ a ++ spaced ws → Shows a b
shows_some a b ws e = record { words = ws; is = e }

pub shows_through : {X E : Type 0} (r : Result X E) (a b : List ℕ) (ws : List (List ℕ)) → OnOk r (b ≡ a ++ spaced ws) → OnOk r (Shows a b)
shows_through (Ok x) a b ws e = shows_some a b ws e
shows_through (Err f) a b ws e = tt

pub shows_on : (a b c : List ℕ) → Shows a b → Shows b c → Shows a c
shows_on a b c p q = record { words = p.words ++ q.words; is = some_pushed a b c p.words q.words p.is q.is }

-- the line of an answer
pub line_of : (crew : List Servant) (x : Answer) (a b c d line w text : List ℕ) → a ≡ [] → b ≡ a ++ echo line → c ≡ b ++ spaced (w ∷ [])
    → Answers crew x c d → text ≡ d
    → (shown : List (List ℕ)) × (text ≡ echo line ++ spaced (w ∷ words_of_answer crew shown x))
line_of crew x a b c d line w text p q r s t = (s.shown, t ∙ line_made a b c d line w (words_of_answer crew s.shown x) p q r s.is)

pub ruleset answering = (answers_known, answers_wants, answers_reads, answers_counters)
