-- What a doubter keeps of the offers that it knows, where a reply to its call comes, and what it forgets where a prefix is settled.
use Rattle.std.proofs.Common.{◌≡◌, refl, sym, ◌∙◌, ℕ, Bool, true, false, cond, nat_lt, not, List, [], ◌∷◌, ◌++◌, length, Contains, Option, None, Some}
use Rattle.std.proofs.lemmas.Option.{none-some, same_Some}
use Rattle.grasp_agent.specs.Replies.{answer_in, is_again, progress_in, started_in}
use Rattle.grasp_agent.specs.States.{AgentState}
use Rattle.grasp_types.specs.Prefix.{AddressBlock as Prefix}
use Rattle.grasp_types.specs.declared.reply.ApiAnswer.{ApiAnswer}
use Rattle.grasp_types.specs.declared.reply.ApiAnswer.TheVariants as answer
use Rattle.grasp_types.specs.declared.reply.Reply.{Reply}
use Rattle.grasp_types.specs.declared.reply.Reply.TheVariants as reply
use Rattle.grasp_types.specs.declared.session.By.TheVariants.{Mine, Theirs}
use Rattle.grasp_types.specs.declared.session.Handle.{Handle}
use Rattle.grasp_types.specs.declared.session.Outcome.{Outcome}
use Rattle.grasp_types.specs.declared.session.Outcome.TheVariants as outcome
use Rattle.grasp_types.specs.declared.session.Progress.{Progress}
use Rattle.grasp_types.specs.declared.session.Progress.TheVariants as progress
use Rattle.grasp_doubter.specs.Questions.{question_in}
use Rattle.grasp_doubter.specs.Replies.{Taken, advanced, advancing, after_answered, after_ask_progress, after_asked, after_duty, after_hearing, after_question, after_request, after_serving, after_starting, after_take, decides, taking}
use Rattle.grasp_doubter.specs.States.{DoubterState, duty_of, is_prefix, is_unasked}
use Rattle.grasp_doubter.specs.declared.asking.Ask.{Ask}
use Rattle.grasp_doubter.specs.declared.duty.DoubtAct.{DoubtAct}
use Rattle.grasp_doubter.specs.declared.duty.DoubtDuty.{DoubtDuty}
use Rattle.grasp_doubter.specs.declared.duty.DoubtDuty.TheVariants as duty
use Rattle.grasp_doubter.specs.declared.question.Question.{Question}
use Rattle.grasp_doubter.specs.declared.seen.Sent.{Sent}
use Rattle.grasp_laws_network.proofs.Lists.{filtered}
use Rattle.grasp_laws_doubts.proofs.Sent.{not_itself}

-- it asks nothing, and knows no offer of this prefix
pub record Forgets (p : Prefix) (f : DoubterState) : Type 0 where
  pub ask : f.ask ≡ None
  pub gone : (x : Sent) → Contains f.offered x → x.prefix ≡ p → ⊥

-- where it still asks, it knows each offer that it knew
abbrev pub KeepsOffers : DoubterState → DoubterState → Type 0
KeepsOffers d f = (k : Ask) → f.ask ≡ Some k → (x : Sent) → Contains d.offered x → Contains f.offered x

module _ (d : DoubterState) where
  -- ---- where a prefix is settled

  asked_forgets : (p : Prefix) (k : Ask) (x : Outcome) → (after_asked d k x).settled ≡ Some p → Forgets p (after_asked d k x).after
  asked_forgets p k (outcome.Agreed Theirs o) e = record {
    ask = refl;
    gone = λ x c same. not_itself x.prefix k.prefix (filtered (λ (s : Sent). not (is_prefix s.prefix k.prefix)) d.offered x c).1 (same ∙ sym (same_Some k.prefix p e));
  }
  asked_forgets p k (outcome.Agreed Mine o) e = absurd (none-some p e)
  asked_forgets p k _ e = absurd (none-some p e)

  progress_forgets : (p : Prefix) (k : Option Ask) (o : Option Progress) → (after_ask_progress d k o).settled ≡ Some p → Forgets p (after_ask_progress d k o).after
  progress_forgets p None o e = absurd (none-some p e)
  progress_forgets p (Some k) None e = absurd (none-some p e)
  progress_forgets p (Some k) (Some (progress.Ended x)) e = asked_forgets p k x e
  progress_forgets p (Some k) (Some _) e = absurd (none-some p e)

  -- ---- where none is

  question_keeps : (a : AgentState) (h : Handle) (q : Option Question) (x : Sent) → Contains d.offered x → Contains (after_question d a h q).offered x
  question_keeps a h q x c = by_room (nat_lt (length d.answering) 64) where
    by_room : (b : Bool) → Contains (cond b (record d { answering = d.answering ++ h ∷ []; act = Some (record { handle = h; accepts = decides d a q }) }) d).offered x
    by_room true = c
    by_room false = c

  hearing_keeps : (a : AgentState) (o : Option ApiAnswer) (x : Sent) → Contains d.offered x → Contains (after_hearing d a o).offered x
  hearing_keeps a None x c = c
  hearing_keeps a (Some (answer.Incoming h from o)) x c = question_keeps a h (question_in o.value) x c
  hearing_keeps a (Some _) x c = c

  starting_keeps : (k : Option Ask) (h : Option Handle) (x : Sent) → Contains d.offered x → Contains (after_starting d k h).offered x
  starting_keeps None h x c = c
  starting_keeps (Some k) None x c = c
  starting_keeps (Some k) (Some h) x c = c

  request_keeps : (r : Reply) (x : Sent) → Contains d.offered x → Contains (after_request d r).offered x
  request_keeps (reply.Refused y) x c = c
  request_keeps (reply.Api y) x c = starting_keeps d.ask (started_in (Some y)) x c
  request_keeps _ x c = starting_keeps d.ask None x c

  asked_keeps : (k : Ask) (x : Outcome) → KeepsOffers d (after_asked d k x).after
  asked_keeps k (outcome.Agreed Theirs o) j e x c = absurd (none-some j e)
  asked_keeps k (outcome.Agreed Mine o) j e x c = c
  asked_keeps k _ j e x c = c

  progress_keeps : (k : Option Ask) (o : Option Progress) → KeepsOffers d (after_ask_progress d k o).after
  progress_keeps None o j e x c = c
  progress_keeps (Some k) None j e x c = c
  progress_keeps (Some k) (Some (progress.Ended y)) j e x c = asked_keeps k y j e x c
  progress_keeps (Some k) (Some _) j e x c = c

  answered_keeps : (place : ℕ) (o : Option Progress) (x : Sent) → Contains d.offered x → Contains (after_answered d place o).offered x
  answered_keeps place None x c = c
  answered_keeps place (Some (progress.Ended y)) x c = c
  answered_keeps place (Some _) x c = c

  -- ---- a reply

  module _ (a : AgentState) (r : Reply) where
    duty_forgets : (p : Prefix) (u : DoubtDuty) → (after_duty d a u r).settled ≡ Some p → Forgets p (after_duty d a u r).after
    duty_forgets p duty.Listen e = absurd (none-some p e)
    duty_forgets p (duty.Ask h) e = progress_forgets p d.ask (progress_in (answer_in r)) e
    duty_forgets p (duty.Answer place h) e = absurd (none-some p e)

    advanced_forgets : (p : Prefix) (f : DoubterState) → Forgets p f → Forgets p (advanced f)
    advanced_forgets p f g = record { ask = g.ask; gone = g.gone }

    serving_forgets : (p : Prefix) (o : Option DoubtAct) → (after_serving d a o r).settled ≡ Some p → Forgets p (after_serving d a o r).after
    serving_forgets p (Some x) e = absurd (none-some p e)
    serving_forgets p None e = by_unasked (is_unasked d.ask) e where
      by_unasked : (b : Bool) → (cond b (taking (after_request d r)) (advancing (after_duty d a (duty_of d) r))).settled ≡ Some p
          → Forgets p (cond b (taking (after_request d r)) (advancing (after_duty d a (duty_of d) r))).after
      by_unasked true f = absurd (none-some p f)
      by_unasked false f = advanced_forgets p (after_duty d a (duty_of d) r).after (duty_forgets p (duty_of d) f)

    -- what it settles it forgets
    pub take_forgets : (p : Prefix) → (after_take d a r).settled ≡ Some p → Forgets p (after_take d a r).after
    unfolding after_take
    take_forgets p e = by_again (is_again r) e where
      by_again : (b : Bool) → (cond b (taking d) (after_serving d a d.act r)).settled ≡ Some p → Forgets p (cond b (taking d) (after_serving d a d.act r)).after
      by_again true f = absurd (none-some p f)
      by_again false f = serving_forgets p d.act f

    duty_keeps : (u : DoubtDuty) → KeepsOffers d (after_duty d a u r).after
    duty_keeps duty.Listen k e x c = hearing_keeps a (answer_in r) x c
    duty_keeps (duty.Ask h) k e x c = progress_keeps d.ask (progress_in (answer_in r)) k e x c
    duty_keeps (duty.Answer place h) k e x c = answered_keeps place (progress_in (answer_in r)) x c

    serving_keeps : (o : Option DoubtAct) → KeepsOffers d (after_serving d a o r).after
    serving_keeps (Some y) k e x c = c
    serving_keeps None k e x c = by_unasked (is_unasked d.ask) e where
      by_unasked : (b : Bool) → (cond b (taking (after_request d r)) (advancing (after_duty d a (duty_of d) r))).after.ask ≡ Some k
          → Contains (cond b (taking (after_request d r)) (advancing (after_duty d a (duty_of d) r))).after.offered x
      by_unasked true f = request_keeps r x c
      by_unasked false f = duty_keeps (duty_of d) k f x c

    -- where it still asks, it forgets nothing
    pub take_keeps : KeepsOffers d (after_take d a r).after
    unfolding after_take
    take_keeps k e x c = by_again (is_again r) e where
      by_again : (b : Bool) → (cond b (taking d) (after_serving d a d.act r)).after.ask ≡ Some k → Contains (cond b (taking d) (after_serving d a d.act r)).after.offered x
      by_again true f = c
      by_again false f = serving_keeps d.act k f x c
