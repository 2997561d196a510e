-- What the reply to a doubter's call makes of the doubter, and when it settles a prefix.
use Rattle.std.proofs.Common.{◌≡◌, refl, ℕ, Bool, true, false, cond, nat_lt, not, Contains, List, [], ◌∷◌, ◌++◌, length, Option, None, Some, Result, Ok, Err}
use Rattle.std.proofs.lemmas.Option.{none-some, same_Some}
use Rattle.grasp_agent.specs.Replies.{answer_in, is_again, progress_in, started_in}
use Rattle.grasp_agent.specs.States.{AgentState}
use Rattle.grasp_types.specs.Prefix.{AddressBlock as Prefix}
use Rattle.grasp_types.specs.declared.address.Address.{Address}
use Rattle.grasp_types.specs.declared.address.Locator.{Locator}
use Rattle.grasp_types.specs.declared.objective.Objective.{Objective}
use Rattle.grasp_types.specs.declared.reply.ApiAnswer.{ApiAnswer}
use Rattle.grasp_types.specs.declared.reply.ApiAnswer.TheVariants as answer
use Rattle.grasp_types.specs.declared.reply.Reply.{Reply}
use Rattle.grasp_types.specs.declared.reply.Reply.TheVariants as reply
use Rattle.grasp_types.specs.declared.session.By.TheVariants.{Mine, Theirs}
use Rattle.grasp_types.specs.declared.session.Handle.{Handle}
use Rattle.grasp_types.specs.declared.session.Outcome.{Outcome}
use Rattle.grasp_types.specs.declared.session.Outcome.TheVariants as outcome
use Rattle.grasp_types.specs.declared.session.Progress.{Progress}
use Rattle.grasp_types.specs.declared.session.Progress.TheVariants as progress
use Rattle.grasp_doubter.specs.Asking.{after_ask, asking_of}
use Rattle.grasp_doubter.specs.Replies.{decides, advanced, advancing, after_answered, after_ask_progress, after_asked, after_duty, after_hearing, after_question, after_request, after_serving, after_starting, after_take, taking}
use Rattle.grasp_doubter.specs.Questions.{question_in}
use Rattle.grasp_doubter.specs.Seeing.{sent_to}
use Rattle.grasp_doubter.specs.States.{DoubterState, duty_of, is_prefix, is_unasked}
use Rattle.grasp_doubter.specs.declared.asking.Ask.{Ask}
use Rattle.grasp_doubter.specs.declared.asking.AskFault.{AskFault}
use Rattle.grasp_doubter.specs.declared.duty.DoubtAct.{DoubtAct}
use Rattle.grasp_doubter.specs.declared.duty.DoubtDuty.{DoubtDuty}
use Rattle.grasp_doubter.specs.declared.duty.DoubtDuty.TheVariants as duty
use Rattle.grasp_doubter.specs.declared.question.Question.{Question}
use Rattle.grasp_doubter.specs.declared.seen.Sent.{Sent}
use Rattle.grasp_laws_network.proofs.Lists.{filtered}

-- ---- when a prefix is settled

-- the other end's acceptance of an objective was told
abbrev pub told_accepted : Objective → Reply
told_accepted o = reply.Api (answer.Polled (progress.Ended (outcome.Agreed Theirs o)))

-- the question of this prefix is asked in a session, the doubter asked how that stands, and the reply is that the other end accepted
pub record IsSettling (d : DoubterState) (r : Reply) (p : Prefix) : Type 0 where
  pub ask : Ask
  pub ask_is : d.ask ≡ Some ask
  pub prefix : ask.prefix ≡ p
  pub handle : Handle
  pub act : d.act ≡ None
  pub duty_is : duty_of d ≡ duty.Ask handle
  pub objective : Objective
  pub told : r ≡ told_accepted objective

-- only then a prefix is settled
pub settles_so : (d : DoubterState) (a : AgentState) (r : Reply) (p : Prefix) → (after_take d a r).settled ≡ Some p → IsSettling d r p
unfolding after_take
settles_so d a r p e = by_again (is_again r) e where
  by_outcome : (k : Ask) → d.ask ≡ Some k → (h : Handle) → duty_of d ≡ duty.Ask h → d.act ≡ None → (x : Outcome) → r ≡ reply.Api (answer.Polled (progress.Ended x))
      → (after_asked d k x).settled ≡ Some p → IsSettling d r p
  by_outcome k ask h u act (outcome.Agreed Theirs o) is f = record { ask = k; ask_is = ask; prefix = same_Some k.prefix p f; handle = h; act = act; duty_is = u; objective = o; told = is }
  by_outcome k ask h u act (outcome.Agreed Mine o) is f = absurd (none-some p f)
  by_outcome k ask h u act _ is f = absurd (none-some p f)

  by_progress : (k : Ask) → d.ask ≡ Some k → (h : Handle) → duty_of d ≡ duty.Ask h → d.act ≡ None → (x : Progress) → r ≡ reply.Api (answer.Polled x)
      → (after_ask_progress d (Some k) (Some x)).settled ≡ Some p → IsSettling d r p
  by_progress k ask h u act (progress.Ended x) is f = by_outcome k ask h u act x is f
  by_progress k ask h u act _ is f = absurd (none-some p f)

  by_answer : (k : Ask) → d.ask ≡ Some k → (h : Handle) → duty_of d ≡ duty.Ask h → d.act ≡ None → (x : ApiAnswer) → r ≡ reply.Api x
      → (after_ask_progress d (Some k) (progress_in (Some x))).settled ≡ Some p → IsSettling d r p
  by_answer k ask h u act (answer.Polled x) is f = by_progress k ask h u act x is f
  by_answer k ask h u act _ is f = absurd (none-some p f)

  by_reply : (k : Ask) → d.ask ≡ Some k → (h : Handle) → duty_of d ≡ duty.Ask h → d.act ≡ None → (x : Reply) → r ≡ x
      → (after_ask_progress d (Some k) (progress_in (answer_in x))).settled ≡ Some p → IsSettling d r p
  by_reply k ask h u act (reply.Api x) is f = by_answer k ask h u act x is f
  by_reply k ask h u act _ is f = absurd (none-some p f)

  by_ask : (k : Option Ask) → d.ask ≡ k → (h : Handle) → duty_of d ≡ duty.Ask h → d.act ≡ None → (after_ask_progress d k (progress_in (answer_in r))).settled ≡ Some p → IsSettling d r p
  by_ask None ask h u act f = absurd (none-some p f)
  by_ask (Some k) ask h u act f = by_reply k ask h u act r refl f

  by_duty : (u : DoubtDuty) → duty_of d ≡ u → d.act ≡ None → (after_duty d a u r).settled ≡ Some p → IsSettling d r p
  by_duty duty.Listen u act f = absurd (none-some p f)
  by_duty (duty.Answer place h) u act f = absurd (none-some p f)
  by_duty (duty.Ask h) u act f = by_ask d.ask refl h u act f

  by_unasked : (b : Bool) → d.act ≡ None → (cond b (taking (after_request d r)) (advancing (after_duty d a (duty_of d) r))).settled ≡ Some p → IsSettling d r p
  by_unasked true act f = absurd (none-some p f)
  by_unasked false act f = by_duty (duty_of d) refl act f

  by_act : (o : Option DoubtAct) → d.act ≡ o → (after_serving d a o r).settled ≡ Some p → IsSettling d r p
  by_act (Some x) act f = absurd (none-some p f)
  by_act None act f = by_unasked (is_unasked d.ask) act f

  by_again : (b : Bool) → (cond b (taking d) (after_serving d a d.act r)).settled ≡ Some p → IsSettling d r p
  by_again true f = absurd (none-some p f)
  by_again false f = by_act d.act refl f

-- ---- what is kept of what was seen

-- the doubter has the openers, the accepted prefixes and the address that it had
pub record HasSeen (d f : DoubterState) : Type 0 where
  pub address : f.address ≡ d.address
  pub openers : f.openers ≡ d.openers
  pub accepted : f.accepted ≡ d.accepted
  pub lost : f.lost ≡ d.lost
  -- and no offer that it hadn't
  pub sent : (x : Sent) → Contains f.offered x → Contains d.offered x

same_seen : (d : DoubterState) → HasSeen d d
same_seen d = record { address = refl; openers = refl; accepted = refl; lost = refl; sent = λ x c. c }

question_seen : (d : DoubterState) (a : AgentState) (h : Handle) (q : Option Question) → HasSeen d (after_question d a h q)
question_seen d a h q = by_room (nat_lt (length d.answering) 64) where
  by_room : (b : Bool) → HasSeen d (cond b (record d { answering = d.answering ++ h ∷ []; act = Some (record { handle = h; accepts = decides d a q }) }) d)
  by_room true = record { address = refl; openers = refl; accepted = refl; lost = refl; sent = λ x c. c }
  by_room false = same_seen d

hearing_seen : (d : DoubterState) (a : AgentState) (o : Option ApiAnswer) → HasSeen d (after_hearing d a o)
hearing_seen d a None = same_seen d
hearing_seen d a (Some (answer.Incoming h from o)) = question_seen d a h (question_in o.value)
hearing_seen d a (Some _) = same_seen d

starting_seen : (d : DoubterState) (k : Option Ask) (h : Option Handle) → HasSeen d (after_starting d k h)
starting_seen d None h = same_seen d
starting_seen d (Some k) None = same_seen d
starting_seen d (Some k) (Some h) = record { address = refl; openers = refl; accepted = refl; lost = refl; sent = λ x c. c }

request_seen : (d : DoubterState) (r : Reply) → HasSeen d (after_request d r)
request_seen d (reply.Refused x) = record { address = refl; openers = refl; accepted = refl; lost = refl; sent = λ x c. c }
request_seen d (reply.Api x) = starting_seen d d.ask (started_in (Some x))
request_seen d _ = starting_seen d d.ask None

progress_seen : (d : DoubterState) (k : Option Ask) (o : Option Progress) → HasSeen d (after_ask_progress d k o).after
progress_seen d None o = same_seen d
progress_seen d (Some k) None = same_seen d
progress_seen d (Some k) (Some (progress.Ended x)) = by_outcome x where
  by_outcome : (x : Outcome) → HasSeen d (after_asked d k x).after
  by_outcome (outcome.Agreed Theirs o) = record { address = refl; openers = refl; accepted = refl; lost = refl; sent = λ x c. (filtered (λ (s : Sent). not (is_prefix s.prefix k.prefix)) d.offered x c).0 }
  by_outcome (outcome.Agreed Mine o) = record { address = refl; openers = refl; accepted = refl; lost = refl; sent = λ x c. c }
  by_outcome _ = record { address = refl; openers = refl; accepted = refl; lost = refl; sent = λ x c. c }
progress_seen d (Some k) (Some _) = same_seen d

answered_seen : (d : DoubterState) (place : ℕ) (o : Option Progress) → HasSeen d (after_answered d place o)
answered_seen d place None = same_seen d
answered_seen d place (Some (progress.Ended x)) = record { address = refl; openers = refl; accepted = refl; lost = refl; sent = λ x c. c }
answered_seen d place (Some _) = same_seen d

duty_seen : (d : DoubterState) (a : AgentState) (u : DoubtDuty) (r : Reply) → HasSeen d (after_duty d a u r).after
duty_seen d a duty.Listen r = hearing_seen d a (answer_in r)
duty_seen d a (duty.Ask h) r = progress_seen d d.ask (progress_in (answer_in r))
duty_seen d a (duty.Answer place h) r = answered_seen d place (progress_in (answer_in r))

advanced_seen : (d f : DoubterState) → HasSeen d f → HasSeen d (advanced f)
advanced_seen d f h = record { address = h.address; openers = h.openers; accepted = h.accepted; lost = h.lost; sent = h.sent }

serving_seen : (d : DoubterState) (a : AgentState) (o : Option DoubtAct) (r : Reply) → HasSeen d (after_serving d a o r).after
serving_seen d a (Some x) r = record { address = refl; openers = refl; accepted = refl; lost = refl; sent = λ x c. c }
serving_seen d a None r = by_unasked (is_unasked d.ask) where
  by_unasked : (b : Bool) → HasSeen d (cond b (taking (after_request d r)) (advancing (after_duty d a (duty_of d) r))).after
  by_unasked true = request_seen d r
  by_unasked false = advanced_seen d (after_duty d a (duty_of d) r).after (duty_seen d a (duty_of d) r)

pub take_seen : (d : DoubterState) (a : AgentState) (r : Reply) → HasSeen d (after_take d a r).after
unfolding after_take
take_seen d a r = by_again (is_again r) where
  by_again : (b : Bool) → HasSeen d (cond b (taking d) (after_serving d a d.act r)).after
  by_again true = same_seen d
  by_again false = serving_seen d a d.act r

asking_seen : (d : DoubterState) (p : Prefix) (peer : Locator) (o : Option Address) → HasSeen d (asking_of d p peer o)
asking_seen d p peer None = same_seen d
asking_seen d p peer (Some a) = record { address = refl; openers = refl; accepted = refl; lost = refl; sent = λ x c. c }

pub ask_seen : (d : DoubterState) (p : Prefix) (peer : Locator) (r : Result (Unit {0}) AskFault) → HasSeen d (after_ask d p peer r)
ask_seen d p peer (Ok done) = asking_seen d p peer (sent_to d.offered p)
ask_seen d p peer (Err f) = same_seen d
