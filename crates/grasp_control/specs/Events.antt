-- What a visitor is told of events, as words. The layout is this project's own.
use Rattle.std.specs.Prelude.{ℕ, List, [], ◌∷◌, ◌++◌, Some, None, codes, decimal}
use Rattle.grasp_types.specs.Refusal.{refusal_name}
use Rattle.grasp_types.specs.declared.flood.FloodRead.{FloodRead}
use Rattle.grasp_types.specs.declared.reply.ApiAnswer.{ApiAnswer}
use Rattle.grasp_types.specs.declared.reply.ApiAnswer.TheVariants as answer
use Rattle.grasp_types.specs.declared.reply.Reply.{Reply}
use Rattle.grasp_types.specs.declared.reply.Reply.TheVariants as reply
use Rattle.grasp_types.specs.declared.session.Outcome.{Outcome}
use Rattle.grasp_types.specs.declared.session.Outcome.TheVariants as outcome
use Rattle.grasp_types.specs.declared.session.Progress.TheVariants as progress
use Rattle.grasp_agent.specs.declared.want.WantEnd.{WantEnd}
use Rattle.grasp_text.specs.Line.{text_word, prefix_word}
use Rattle.grasp_text.specs.Words.{spaced}
use Rattle.grasp_script.specs.Answers.{by_word, all_flood_read_words}
use Rattle.grasp_control.specs.Orders.{end_words}
use Rattle.grasp_control.specs.declared.events.NodeEvent.{NodeEvent}
use Rattle.grasp_control.specs.declared.events.NodeEvent.TheVariants as event

-- the line of an event: `event`, the reading of the node's clock, and the event's words
abbrev pub event_line : ℕ → List (List ℕ) → List ℕ
event_line now words = codes "event" ++ spaced (decimal now ∷ words)

-- prefixes that move, visitors that come and go, and the end
abbrev pub event_words : NodeEvent → List (List ℕ)
event_words (event.Gained p) = codes "gained" ∷ prefix_word p ∷ []
event_words (event.Offered p) = codes "offered" ∷ prefix_word p ∷ []
event_words (event.Given p) = codes "given" ∷ prefix_word p ∷ []
event_words (event.Back p) = codes "back" ∷ prefix_word p ∷ []
event_words (event.Doubt p) = codes "doubt" ∷ prefix_word p ∷ []
event_words (event.Came visitor) = codes "visitor" ∷ decimal visitor ∷ codes "came" ∷ []
event_words (event.Registered visitor asa) = codes "visitor" ∷ decimal visitor ∷ codes "asa" ∷ decimal asa ∷ []
event_words (event.Left visitor) = codes "visitor" ∷ decimal visitor ∷ codes "left" ∷ []
event_words event.Stopping = codes "stopping" ∷ []

-- what an outcome tells behind its own word: by whom, why, or when
abbrev pub outcome_detail : Outcome → List (List ℕ)
outcome_detail (outcome.Declined by None) = by_word by ∷ []
outcome_detail (outcome.Declined by (Some reason)) = by_word by ∷ text_word reason ∷ []
outcome_detail (outcome.TimedOut deadline now) = decimal deadline ∷ decimal now ∷ []
outcome_detail (outcome.Invalid by) = by_word by ∷ []
outcome_detail _ = []

abbrev pub answer_detail : ApiAnswer → List (List ℕ)
answer_detail (answer.Polled (progress.Ended e)) = outcome_detail e
answer_detail _ = []

-- what the reply by which a want ended tells besides: what the outcome of its session does, or the name of a refusal
abbrev pub detail_words : Reply → List (List ℕ)
detail_words (reply.Api a) = answer_detail a
detail_words (reply.Refused refusal) = refusal_name refusal ∷ []
detail_words _ = []

-- the peer of this want was asked, and that ended so by this reply
abbrev pub want_event_words : ℕ → ℕ → ℕ → WantEnd → Reply → List (List ℕ)
want_event_words number length longest e r = codes "want" ∷ decimal number ∷ decimal length ∷ decimal longest ∷ (end_words e ++ detail_words r)

-- what the reader of this objective reads now
abbrev pub read_event_words : List ℕ → List FloodRead → List (List ℕ)
read_event_words name reads = codes "read" ∷ text_word name ∷ codes "=" ∷ codes "floods" ∷ all_flood_read_words reads
