-- What the reply to a doubter's call makes of its question and of its answer.
use Rattle.std.proofs.Common.{◌≡◌, ◌⊎◌, inl, inr, refl, sym, ap, ◌∙◌, ℕ, Bool, true, false, cond, nat_lt, List, [], ◌∷◌, ◌++◌, length, Option, None, Some}
use Rattle.std.proofs.lemmas.Option.{none-some, same_Some}
use Rattle.grasp_agent.specs.Replies.{answer_in, is_again, progress_in, started_in}
use Rattle.grasp_agent.specs.States.{AgentState}
use Rattle.grasp_types.specs.declared.address.Address.{Address}
use Rattle.grasp_types.specs.declared.objective.Objective.{Objective}
use Rattle.grasp_types.specs.declared.reply.ApiAnswer.{ApiAnswer}
use Rattle.grasp_types.specs.declared.reply.ApiAnswer.TheVariants as answer
use Rattle.grasp_types.specs.declared.reply.Reply.{Reply}
use Rattle.grasp_types.specs.declared.reply.Reply.TheVariants as reply
use Rattle.grasp_types.specs.declared.session.By.TheVariants.{Mine, Theirs}
use Rattle.grasp_types.specs.declared.session.Handle.{Handle}
use Rattle.grasp_types.specs.declared.session.Outcome.{Outcome}
use Rattle.grasp_types.specs.declared.session.Outcome.TheVariants as outcome
use Rattle.grasp_types.specs.declared.session.Progress.{Progress}
use Rattle.grasp_types.specs.declared.session.Progress.TheVariants as progress
use Rattle.grasp_doubter.specs.Questions.{question_in}
use Rattle.grasp_doubter.specs.Replies.{Taken, advanced, advancing, after_answered, after_ask_progress, after_asked, after_duty, after_hearing, after_question, after_request, after_serving, after_starting, after_take, decides, taking}
use Rattle.grasp_doubter.specs.States.{DoubterState, duty_of, is_unasked}
use Rattle.grasp_doubter.specs.declared.asking.Ask.{Ask}
use Rattle.grasp_doubter.specs.declared.duty.DoubtAct.{DoubtAct}
use Rattle.grasp_doubter.specs.declared.duty.DoubtDuty.{DoubtDuty}
use Rattle.grasp_doubter.specs.declared.duty.DoubtDuty.TheVariants as duty

module _ (d : DoubterState) (a : AgentState) (r : Reply) where
  -- the answer that isn't given then wasn't given, and the call is to be made again; or it was decided of a question that came just now
  pub data WasAct (x : DoubtAct) : Type 0 where
    again : d.act ≡ Some x → is_again r ≡ true → WasAct x
    decided : (h : Handle) (from : Address) (o : Objective) → r ≡ reply.Api (answer.Incoming h from o) → x ≡ record { handle = h; accepts = decides d a (question_in o.value) } → WasAct x

  -- the question that isn't finished then wasn't finished, or its session began just now
  pub data WasAsk (k : Ask) : Type 0 where
    asked : d.ask ≡ Some k → WasAsk k
    began : (b : Ask) (h : Handle) → d.act ≡ None → d.ask ≡ Some b → is_unasked (Some b) ≡ true → r ≡ reply.Api (answer.Started h) → k ≡ record b { session = Some h } → WasAsk k

  -- ---- the answer

  question_act : (none : d.act ≡ None) → (h : Handle) (from : Address) (o : Objective) → r ≡ reply.Api (answer.Incoming h from o) → (x : DoubtAct) → (after_question d a h (question_in o.value)).act ≡ Some x → WasAct x
  question_act none h from o is x e = by_room (nat_lt (length d.answering) 64) e where
    by_room : (b : Bool) → (cond b (record d { answering = d.answering ++ h ∷ []; act = Some (record { handle = h; accepts = decides d a (question_in o.value) }) }) d).act ≡ Some x → WasAct x
    by_room true f = decided h from o is (sym (same_Some (record { handle = h; accepts = decides d a (question_in o.value) }) x f))
    by_room false f = absurd (none-some x (sym none ∙ f))

  hearing_act : (none : d.act ≡ None) → (y : Reply) → r ≡ y → (x : DoubtAct) → (after_hearing d a (answer_in y)).act ≡ Some x → WasAct x
  hearing_act none (reply.Api y) is x e = by_answer y is e where
    by_answer : (y : ApiAnswer) → r ≡ reply.Api y → (after_hearing d a (Some y)).act ≡ Some x → WasAct x
    by_answer (answer.Incoming h from o) is e = question_act none h from o is x e
    by_answer _ is e = absurd (none-some x (sym none ∙ e))
  hearing_act none _ is x e = absurd (none-some x (sym none ∙ e))

  starting_act : (k : Option Ask) (h : Option Handle) → (after_starting d k h).act ≡ d.act
  starting_act None h = refl
  starting_act (Some k) None = refl
  starting_act (Some k) (Some h) = refl

  request_act : (y : Reply) → (after_request d y).act ≡ d.act
  request_act (reply.Refused x) = refl
  request_act (reply.Api x) = starting_act d.ask (started_in (Some x))
  request_act _ = starting_act d.ask None

  asked_act : (k : Ask) (x : Outcome) → (after_asked d k x).after.act ≡ d.act
  asked_act k (outcome.Agreed Theirs o) = refl
  asked_act k (outcome.Agreed Mine o) = refl
  asked_act k _ = refl

  progress_act : (k : Option Ask) (o : Option Progress) → (after_ask_progress d k o).after.act ≡ d.act
  progress_act None o = refl
  progress_act (Some k) None = refl
  progress_act (Some k) (Some (progress.Ended x)) = asked_act k x
  progress_act (Some k) (Some _) = refl

  answered_act : (place : ℕ) (o : Option Progress) → (after_answered d place o).act ≡ d.act
  answered_act place None = refl
  answered_act place (Some (progress.Ended x)) = refl
  answered_act place (Some _) = refl

  duty_act : (none : d.act ≡ None) → (u : DoubtDuty) (x : DoubtAct) → (after_duty d a u r).after.act ≡ Some x → WasAct x
  duty_act none duty.Listen x e = hearing_act none r refl x e
  duty_act none (duty.Ask h) x e = absurd (none-some x (sym none ∙ (sym (progress_act d.ask (progress_in (answer_in r))) ∙ e)))
  duty_act none (duty.Answer place h) x e = absurd (none-some x (sym none ∙ (sym (answered_act place (progress_in (answer_in r))) ∙ e)))

  serving_act : (o : Option DoubtAct) → d.act ≡ o → (x : DoubtAct) → (after_serving d a o r).after.act ≡ Some x → WasAct x
  serving_act (Some y) is x e = absurd (none-some x e)
  serving_act None none x e = by_unasked (is_unasked d.ask) e where
    by_unasked : (b : Bool) → (cond b (taking (after_request d r)) (advancing (after_duty d a (duty_of d) r))).after.act ≡ Some x → WasAct x
    by_unasked true f = absurd (none-some x (sym none ∙ (sym (request_act r) ∙ f)))
    by_unasked false f = duty_act none (duty_of d) x f

  pub take_act : (x : DoubtAct) → (after_take d a r).after.act ≡ Some x → WasAct x
  unfolding after_take
  take_act x e = by_again (is_again r) refl e where
    by_again : (b : Bool) → is_again r ≡ b → (cond b (taking d) (after_serving d a d.act r)).after.act ≡ Some x → WasAct x
    by_again true so_it_is f = again f so_it_is
    by_again false passes f = serving_act d.act refl x f

  -- ---- the question

  question_ask : (h : Handle) (o : Objective) → (after_question d a h (question_in o.value)).ask ≡ d.ask
  question_ask h o = by_room (nat_lt (length d.answering) 64) where
    by_room : (b : Bool) → (cond b (record d { answering = d.answering ++ h ∷ []; act = Some (record { handle = h; accepts = decides d a (question_in o.value) }) }) d).ask ≡ d.ask
    by_room true = refl
    by_room false = refl

  hearing_ask : (o : Option ApiAnswer) → (after_hearing d a o).ask ≡ d.ask
  hearing_ask None = refl
  hearing_ask (Some (answer.Incoming h from o)) = question_ask h o
  hearing_ask (Some _) = refl

  answered_ask : (place : ℕ) (o : Option Progress) → (after_answered d place o).ask ≡ d.ask
  answered_ask place None = refl
  answered_ask place (Some (progress.Ended x)) = refl
  answered_ask place (Some _) = refl

  asked_ask : (b : Ask) (x : Outcome) (k : Ask) → (after_asked d b x).after.ask ≡ Some k → WasAsk k
  asked_ask b (outcome.Agreed Theirs o) k e = absurd (none-some k e)
  asked_ask b (outcome.Agreed Mine o) k e = absurd (none-some k e)
  asked_ask b _ k e = absurd (none-some k e)

  progress_ask : (b : Option Ask) → (o : Option Progress) (k : Ask) → (after_ask_progress d b o).after.ask ≡ Some k → WasAsk k
  progress_ask None o k e = asked e
  progress_ask (Some b) None k e = asked e
  progress_ask (Some b) (Some (progress.Ended x)) k e = asked_ask b x k e
  progress_ask (Some b) (Some _) k e = asked e

  duty_ask : (u : DoubtDuty) (k : Ask) → (after_duty d a u r).after.ask ≡ Some k → WasAsk k
  duty_ask duty.Listen k e = asked (sym (hearing_ask (answer_in r)) ∙ e)
  duty_ask (duty.Ask h) k e = progress_ask d.ask (progress_in (answer_in r)) k e
  duty_ask (duty.Answer place h) k e = asked (sym (answered_ask place (progress_in (answer_in r))) ∙ e)

  request_ask : (none : d.act ≡ None) → is_unasked d.ask ≡ true → (y : Reply) → r ≡ y → (k : Ask) → (after_request d y).ask ≡ Some k → WasAsk k
  request_ask none un (reply.Refused x) is k e = absurd (none-some k e)
  request_ask none un (reply.Api x) is k e = by_answer x is e where
    by_ask : (h : Handle) (o : Option Ask) → d.ask ≡ o → r ≡ reply.Api (answer.Started h) → (after_starting d o (Some h)).ask ≡ Some k → WasAsk k
    by_ask h None ask is e = asked e
    by_ask h (Some b) ask is e = began b h none ask (sym (ap is_unasked ask) ∙ un) is (sym (same_Some (record b { session = Some h }) k e))

    same : (h : Option Handle) → h ≡ None → (after_starting d d.ask h).ask ≡ d.ask
    same h e = ap (λ (z : Option Handle). (after_starting d d.ask z).ask) e ∙ none_starts d.ask where
      none_starts : (o : Option Ask) → (after_starting d o None).ask ≡ d.ask
      none_starts None = refl
      none_starts (Some b) = refl

    by_answer : (x : ApiAnswer) → r ≡ reply.Api x → (after_starting d d.ask (started_in (Some x))).ask ≡ Some k → WasAsk k
    by_answer (answer.Started h) is e = by_ask h d.ask refl is e
    by_answer _ is e = asked (sym (same None refl) ∙ e)
  request_ask none un _ is k e = asked (sym (none_starts d.ask) ∙ e) where
    none_starts : (o : Option Ask) → (after_starting d o None).ask ≡ d.ask
    none_starts None = refl
    none_starts (Some b) = refl

  serving_ask : (o : Option DoubtAct) → d.act ≡ o → (k : Ask) → (after_serving d a o r).after.ask ≡ Some k → WasAsk k
  serving_ask (Some y) is k e = asked e
  serving_ask None none k e = by_unasked (is_unasked d.ask) refl e where
    by_unasked : (b : Bool) → is_unasked d.ask ≡ b → (cond b (taking (after_request d r)) (advancing (after_duty d a (duty_of d) r))).after.ask ≡ Some k → WasAsk k
    by_unasked true un f = request_ask none un r refl k f
    by_unasked false un f = duty_ask (duty_of d) k f

  pub take_ask : (k : Ask) → (after_take d a r).after.ask ≡ Some k → WasAsk k
  unfolding after_take
  take_ask k e = by_again (is_again r) e where
    by_again : (b : Bool) → (cond b (taking d) (after_serving d a d.act r)).after.ask ≡ Some k → WasAsk k
    by_again true f = asked f
    by_again false f = serving_ask d.act refl k f
