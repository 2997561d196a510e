-- The words of what an event came to, and of a node's state. The layout is this project's own.
use Rattle.std.specs.Prelude.{ℕ, List, [], ◌∷◌, ◌++◌, map, length, Some, None, codes, decimal}
use Rattle.grasp_types.specs.Prefix.{AddressBlock}
use Rattle.grasp_types.specs.Refusal.{refusal_number, refusal_name}
use Rattle.grasp_types.specs.declared.flood.FloodRead.{FloodRead}
use Rattle.grasp_types.specs.declared.reply.ApiAnswer.{ApiAnswer}
use Rattle.grasp_types.specs.declared.reply.ApiAnswer.TheVariants as answer
use Rattle.grasp_types.specs.declared.reply.Reply.{Reply}
use Rattle.grasp_types.specs.declared.reply.Reply.TheVariants as reply
use Rattle.grasp_types.specs.declared.session.By.{By}
use Rattle.grasp_types.specs.declared.session.By.TheVariants.{Mine, Theirs}
use Rattle.grasp_types.specs.declared.session.Outcome.{Outcome}
use Rattle.grasp_types.specs.declared.session.Outcome.TheVariants as outcome
use Rattle.grasp_types.specs.declared.session.Progress.{Progress}
use Rattle.grasp_types.specs.declared.session.Progress.TheVariants as progress
use Rattle.grasp_text.specs.Line.{address_word, text_word, prefix_word, objective_words, locator_or_none, all_locator_words}

-- whose doing it was
abbrev pub by_word : By → List ℕ
by_word Mine = codes "mine"
by_word Theirs = codes "theirs"

-- how a session ended
abbrev pub outcome_words : Outcome → List (List ℕ)
outcome_words (outcome.Agreed by objective) = codes "agreed" ∷ by_word by ∷ objective_words objective
outcome_words (outcome.Declined by None) = codes "declined" ∷ by_word by ∷ []
outcome_words (outcome.Declined by (Some reason)) = codes "declined" ∷ by_word by ∷ text_word reason ∷ []
outcome_words (outcome.Synchronized objective) = codes "synchronized" ∷ objective_words objective
outcome_words (outcome.TimedOut deadline now) = codes "timedout" ∷ decimal deadline ∷ decimal now ∷ []
outcome_words outcome.Broken = codes "broken" ∷ []
outcome_words outcome.OutOfMemory = codes "outofmemory" ∷ []
outcome_words (outcome.Invalid by) = codes "invalid" ∷ by_word by ∷ []

-- how a session stands
abbrev pub progress_words : Progress → List (List ℕ)
progress_words progress.NotYet = codes "notyet" ∷ []
progress_words (progress.Turn objective) = codes "turn" ∷ objective_words objective
progress_words (progress.Ended outcome) = codes "ended" ∷ outcome_words outcome

-- what a flood told: who flooded it, what, and where it can be reached
abbrev pub flood_read_words : FloodRead → List (List ℕ)
flood_read_words r = address_word r.initiator ∷ (objective_words r.objective ++ locator_or_none r.locator)

abbrev pub all_flood_read_words : List FloodRead → List (List ℕ)
all_flood_read_words [] = []
all_flood_read_words (r ∷ reads) = flood_read_words r ++ all_flood_read_words reads

-- the answer to an agent's call
abbrev pub answer_words : ApiAnswer → List (List ℕ)
answer_words (answer.Asa number) = codes "asa" ∷ decimal number ∷ []
answer_words answer.Done = codes "done" ∷ []
answer_words (answer.Started handle) = codes "started" ∷ decimal handle.number ∷ []
answer_words answer.Searching = codes "searching" ∷ []
answer_words (answer.Found locators) = codes "found" ∷ all_locator_words locators
answer_words answer.Nothing = codes "nothing" ∷ []
answer_words answer.NotYet = codes "notyet" ∷ []
answer_words (answer.Incoming handle from objective) = codes "incoming" ∷ decimal handle.number ∷ address_word from ∷ objective_words objective
answer_words (answer.Polled progress) = progress_words progress
answer_words (answer.Floods reads) = codes "floods" ∷ all_flood_read_words reads

-- the reply of a node; of outputs it is told how many they are
abbrev pub reply_words : Reply → List (List ℕ)
reply_words (reply.Api answer) = answer_words answer
reply_words (reply.Refused refusal) = codes "refused" ∷ decimal (refusal_number refusal) ∷ refusal_name refusal ∷ []
reply_words (reply.Outputs outputs) = codes "sent" ∷ decimal (length outputs) ∷ []
reply_words reply.Taken = codes "taken" ∷ []
reply_words reply.Turned = codes "turned" ∷ []
reply_words reply.OutOfMemory = codes "outofmemory" ∷ []

-- prefixes, one after another
abbrev pub prefix_words : List AddressBlock → List (List ℕ)
prefix_words prefixes = map prefix_word prefixes
