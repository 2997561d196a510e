-- What a reply makes of a doubter, and which prefix it settles.
use Rattle.std.specs.Prelude.{ℕ, ◌+◌, ◌&&◌, ◌==◌, not, nat_lt, Bool, true, false, if◌then◌else◌, List, [], ◌∷◌, ◌++◌, length, take, drop, slice_get, Option, Some, None, is_none}
use Rattle.grasp_types.specs.Prefix.{AddressBlock as Prefix}
use Rattle.grasp_types.specs.declared.address.Address.{Address}
use Rattle.grasp_types.specs.declared.address.Address.TheVariants.{V4, V6}
use Rattle.grasp_types.specs.declared.objective.Objective.{Objective}
use Rattle.grasp_types.specs.declared.refusal.ApiRefused.{ApiRefused}
use Rattle.grasp_types.specs.declared.reply.ApiAnswer.{ApiAnswer}
use Rattle.grasp_types.specs.declared.reply.ApiAnswer.TheVariants as answer
use Rattle.grasp_types.specs.declared.reply.Reply.{Reply}
use Rattle.grasp_types.specs.declared.session.By.TheVariants.{Mine, Theirs}
use Rattle.grasp_types.specs.declared.session.Handle.{Handle}
use Rattle.grasp_types.specs.declared.session.Outcome.{Outcome}
use Rattle.grasp_types.specs.declared.session.Outcome.TheVariants as outcome
use Rattle.grasp_types.specs.declared.session.Progress.{Progress}
use Rattle.grasp_types.specs.declared.session.Progress.TheVariants as progress
use Rattle.grasp_pool.specs.Functions.{any_overlaps}
use Rattle.grasp_agent.specs.Replies.{is_again, refused_in, answer_in, progress_in, started_in}
use Rattle.grasp_agent.specs.States.{AgentState}
use Rattle.grasp_doubter.specs.Questions.{question_in}
use Rattle.grasp_doubter.specs.Seeing.{without_sent}
use Rattle.grasp_doubter.specs.States.{DoubterState, duties, duty_of, is_unasked}
use Rattle.grasp_doubter.specs.declared.asking.Ask.{Ask}
use Rattle.grasp_doubter.specs.declared.duty.DoubtAct.{DoubtAct}
use Rattle.grasp_doubter.specs.declared.duty.DoubtDuty.{DoubtDuty}
use Rattle.grasp_doubter.specs.declared.duty.DoubtDuty.TheVariants as duty
use Rattle.grasp_doubter.specs.declared.question.Question.{Question}

-- what a reply comes to: the doubter after it, and the prefix that nobody has accepted, where it is known now
pub record Taken : Type 0 where
  pub after : DoubterState
  pub settled : Option Prefix

abbrev pub taking : DoubterState → Taken
taking d = record { after = d; settled = None }

-- ---- a question that comes

-- the two are one address
abbrev pub is_address : Address → Address → Bool
is_address (V4 m) (V4 n) = m == n
is_address (V6 m) (V6 n) = m == n
is_address (V4 m) (V6 n) = false
is_address (V6 m) (V4 n) = false

-- the node may say that it never accepted this prefix: it is the node that is asked, it knows all that it has accepted, its agent of prefixes wants
-- nothing, and it has accepted nothing that overlaps the prefix
abbrev pub may_say_never : DoubterState → AgentState → Question → Bool
may_say_never d s q = is_address q.address d.address && not d.lost && is_none s.want && not (any_overlaps d.accepted q.prefix)

-- a value that is no question is declined
abbrev pub decides : DoubterState → AgentState → Option Question → Bool
decides d s None = false
decides d s (Some q) = may_say_never d s q

-- a question joins those that are answered, of which there are at most 64, and is decided
abbrev pub after_question : DoubterState → AgentState → Handle → Option Question → DoubterState
after_question d s h q = if nat_lt (length d.answering) 64
    then record d { answering = d.answering ++ h ∷ []; act = Some (record { handle = h; accepts = decides d s q }) }
    else d

abbrev pub after_hearing : DoubterState → AgentState → Option ApiAnswer → DoubterState
after_hearing d s None = d
after_hearing d s (Some a) = by_answer a where
  by_answer : ApiAnswer → DoubterState
  by_answer (answer.Incoming h from o) = after_question d s h (question_in o.value)
  by_answer _ = d

-- ---- the question that is asked

-- it is finished
abbrev pub unasked : DoubterState → DoubterState
unasked d = record d { ask = None }

abbrev pub after_starting : DoubterState → Option Ask → Option Handle → DoubterState
after_starting d None h = d
after_starting d (Some k) None = d
after_starting d (Some k) (Some h) = record d { ask = Some (record k { session = Some h }) }

-- after the request: a refusal finishes the question
abbrev pub after_request : DoubterState → Reply → DoubterState
after_request d r = by_refusal (refused_in r) where
  by_refusal : Option ApiRefused → DoubterState
  by_refusal (Some refused) = unasked d
  by_refusal None = after_starting d d.ask (started_in (answer_in r))

-- an acceptance by the other end says that the prefix was never accepted there: it is settled, and its offer is forgotten
abbrev pub settling : DoubterState → Ask → Taken
settling d k = record { after = record d { ask = None; offered = without_sent d.offered k.prefix }; settled = Some k.prefix }

-- the session of the question ended so
abbrev pub after_asked : DoubterState → Ask → Outcome → Taken
after_asked d k (outcome.Agreed Theirs o) = settling d k
after_asked d k (outcome.Agreed Mine o) = taking (unasked d)
after_asked d k _ = taking (unasked d)

abbrev pub after_ask_progress : DoubterState → Option Ask → Option Progress → Taken
after_ask_progress d None p = taking d
after_ask_progress d (Some k) None = taking d
after_ask_progress d (Some k) (Some (progress.Ended e)) = after_asked d k e
after_ask_progress d (Some k) (Some _) = taking d

-- ---- the sessions in which it answers

-- the list without the value at this place
abbrev pub removed_at : List Handle → ℕ → List Handle
removed_at hs place = take place hs ++ drop (place + 1) hs

abbrev pub after_answered : DoubterState → ℕ → Option Progress → DoubterState
after_answered d place None = d
after_answered d place (Some (progress.Ended e)) = record d { answering = removed_at d.answering place }
after_answered d place (Some _) = d

-- ---- replies

abbrev pub after_duty : DoubterState → AgentState → DoubtDuty → Reply → Taken
after_duty d s duty.Listen r = taking (after_hearing d s (answer_in r))
after_duty d s (duty.Ask h) r = after_ask_progress d d.ask (progress_in (answer_in r))
after_duty d s (duty.Answer place h) r = taking (after_answered d place (progress_in (answer_in r)))

-- the next duty comes, and after the last one the first
abbrev pub advanced : DoubterState → DoubterState
advanced d = record d { cursor = if nat_lt (d.cursor + 1) (duties d) then d.cursor + 1 else 0 }

abbrev pub advancing : Taken → Taken
advancing t = record { after = advanced t.after; settled = t.settled }

abbrev pub after_serving : DoubterState → AgentState → Option DoubtAct → Reply → Taken
after_serving d s (Some a) r = taking (record d { act = None })
after_serving d s None r = if is_unasked d.ask then taking (after_request d r) else advancing (after_duty d s (duty_of d) r)

-- after the reply to the call that was next, beside an agent of prefixes that stands so
unfoldable pub after_take : DoubterState → AgentState → Reply → Taken
after_take d s r = if is_again r then taking d else after_serving d s d.act r
