-- What a visitor's line is answered, as words.
use Rattle.std.specs.Prelude.{ℕ, List, [], ◌∷◌}
use Rattle.grasp_control.specs.Answers.{answer_line, plain_words, version_words}
use Rattle.grasp_control.specs.declared.answers.PlainAnswer.TheVariants as plain
use Rattle.grasp_crew.specs.declared.seat.Gate.{Gate}
use Rattle.grasp_crew.specs.declared.seat.Gate.TheVariants.{Passes, Seatless, Seated}
use Rattle.grasp_crew.specs.declared.servant.Servant.{Servant}
use Rattle.grasp_crew.specs.declared.servant.Servant.TheVariants.{Steward, Herald, Listener}
use Rattle.grasp_desk.specs.declared.desk.Told.{Told}
use Rattle.grasp_script.specs.Answers.{reply_words}
use Rattle.grasp_script.specs.Reports.{state_words}
use Rattle.grasp_types.specs.declared.refusal.ApiRefused.TheVariants as refusal
use Rattle.grasp_types.specs.declared.reply.Reply.TheVariants as reply
use Rattle.grasp_service_visits.specs.declared.answer.Answer.{Answer}
use Rattle.grasp_service_visits.specs.declared.answer.Answer.TheVariants.{Replied, Plain, State, Wants, Reads, Counters, Version, Later}

-- the prefixes of the agent that manages them, which is the first of a crew
abbrev pub held_words : List Servant → List (List ℕ)
held_words [] = []
held_words (Steward m ∷ crew) = state_words m.agent.pool
held_words (Herald h ∷ crew) = []
held_words (Listener l ∷ crew) = []

-- the words of an answer; these are the words that wants, readers and counters are shown by
abbrev pub words_of_answer : List Servant → List (List ℕ) → Answer → List (List ℕ)
words_of_answer crew shown (Replied r) = reply_words r
words_of_answer crew shown (Plain p) = plain_words p
words_of_answer crew shown State = held_words crew
words_of_answer crew shown Wants = shown
words_of_answer crew shown Reads = shown
words_of_answer crew shown Counters = shown
words_of_answer crew shown Version = version_words
words_of_answer crew shown Later = []

-- the visitor is told this line
abbrev pub told_to : ℕ → List ℕ → Told
told_to visitor line = record { visitor = visitor; line = line }

-- the line that a visitor is told, where its answer is there
abbrev pub told_answer : List Servant → List (List ℕ) → ℕ → List ℕ → Answer → List Told
told_answer crew shown visitor line Later = []
told_answer crew shown visitor line a = told_to visitor (answer_line line (words_of_answer crew shown a)) ∷ []

-- by a seat's gate: this where the call passes; else that the visitor has no agent, or has one already
abbrev pub at_gate : Gate → Answer → Answer
at_gate Passes a = a
at_gate Seatless a = Replied (reply.Refused refusal.NoAsa)
at_gate Seated a = Plain plain.Seated
