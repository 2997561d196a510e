-- Each move that happens to an agent has its effect.
use Rattle.std.proofs.Common.{◌≡◌, inl, inr, ℕ, ◌<◌, ◌≤◌, nat_lt, Bool, true, false, cond, [], ◌∷◌, ◌++◌, length, slice_get, Contains, Option, Some, None, IfSome, refl, sym, ap, subst, ◌∙◌, arith}
use Rattle.grasp_types.specs.Prefix.{AddressBlock as Prefix}
use Rattle.grasp_types.specs.declared.objective.Objective.{Objective}
use Rattle.grasp_types.specs.declared.refusal.ApiRefused.{ApiRefused}
use Rattle.grasp_types.specs.declared.reply.ApiAnswer.{ApiAnswer}
use Rattle.grasp_types.specs.declared.reply.Reply.{Reply}
use Rattle.grasp_types.specs.declared.reply.Reply.TheVariants as reply
use Rattle.grasp_types.specs.declared.session.By.TheVariants.{Mine, Theirs}
use Rattle.grasp_types.specs.declared.session.Handle.{Handle}
use Rattle.grasp_types.specs.declared.session.Outcome.{Outcome}
use Rattle.grasp_types.specs.declared.session.Outcome.TheVariants as outcome
use Rattle.grasp_types.specs.declared.session.Progress.TheVariants as progress
use Rattle.grasp_pool.specs.Holdings.{Holding, Gains}
use Rattle.grasp_pool.specs.Pools.{IsPool}
use Rattle.grasp_pool.specs.Functions.{after_gain, after_gaining}
use Rattle.grasp_pool.proofs.Gaining.{can_gain_tells}
use Rattle.grasp_pool.proofs.Lists.{lt_tells}
use Rattle.grasp_pool.proofs.Meanings.{gain_means, back_means}
use Rattle.grasp_agent.specs.Decisions.{giver_decision, requester_decision, after_deciding}
use Rattle.grasp_agent.specs.Kept.{ActStands, IsKept}
use Rattle.grasp_laws_agent.specs.Moves.{comes_in, starts, is_refused, considers, finishes, hands, is_unsent, hears, is_made, is_dropped, gives, leaves, IsNext, IsRequesting, IsReturning, Happens, Effect, EndsAs, Gives, SettlesOffer, MovesAreMade}
use Rattle.grasp_agent.specs.Replies.{answer_in, is_again, incoming_in, started_in, progress_in, is_answered, after_incoming, after_opening, after_act, after_doing, after_dropping, after_starting, finished, after_asking, after_returning, held_end, want_end, want_act, after_want_progress, after_back_progress, giving_back, settling, after_give_progress, after_giver_end, after_giver_turn, after_duty, after_serving, advanced, after_reply}
use Rattle.grasp_agent.specs.States.{AgentState, is_open, is_asking, is_returning, want_session, duty_of}
use Rattle.grasp_agent.specs.Values.{offered_in}
use Rattle.grasp_agent.specs.declared.act.Act.{Act}
use Rattle.grasp_agent.specs.declared.act.Act.TheVariants as act
use Rattle.grasp_agent.specs.declared.decision.GiverDecision.{GiverDecision}
use Rattle.grasp_agent.specs.declared.decision.GiverDecision.TheVariants as giver
use Rattle.grasp_agent.specs.declared.duty.Duty.{Duty}
use Rattle.grasp_agent.specs.declared.duty.Duty.TheVariants as duty
use Rattle.grasp_agent.specs.declared.giving.Giving.{Giving}
use Rattle.grasp_agent.specs.declared.stage.Stage.TheVariants as stage
use Rattle.grasp_agent.specs.declared.want.Want.{Want}
use Rattle.grasp_agent.specs.declared.want.WantEnd.TheVariants as end
use Rattle.grasp_agent.proofs.KeepDecisions.{GivenBy, give_given}
use Rattle.grasp_agent.proofs.KeepForms.{act_reserved}
use Rattle.grasp_agent.proofs.Keeping.{act_stands, between, offer_reserved, without_is}
use Rattle.grasp_laws_agent.proofs.Facts.{takes_back}
use Rattle.grasp_laws_agent.proofs.LawGiver.{givers_decide}
use Rattle.grasp_laws_agent.proofs.LawNext.{its_duty}
use Rattle.grasp_laws_agent.proofs.LawRequester.{requesters_decide}
use Rattle.grasp_laws_agent.proofs.Returning.{returned_started, hands_so, unsent_so, settles, hears_so}

-- ---- which part of the table a reply meets

-- a reply that tells something isn't one after which the call is made again
pub told_again : {X : Type 0} (f : Option ApiAnswer → Option X) (r : Reply) (x : X) → f None ≡ None → f (answer_in r) ≡ Some x → is_again r ≡ false
told_again f (reply.Refused y) x none e = absurd (cc)
told_again f reply.OutOfMemory x none e = absurd (cc)
told_again f _ x none e = refl

-- after a reply that ends a call of an agent that serves
pub at_serving : (s : AgentState) (r : Reply) (a : Option Act) → is_again r ≡ false → is_open s.stage ≡ true → s.act ≡ a → after_reply s r ≡ after_serving s a r
unfolding after_reply
at_serving s r a again serves e =
    ap (λ b. cond b s (cond (is_open s.stage) (after_serving s s.act r) (after_opening s r))) again
    ∙ ap (λ b. cond b (after_serving s s.act r) (after_opening s r)) serves ∙ ap (λ x. after_serving s x r) e

-- after a reply that ends a call of an agent whose opening calls aren't done
pub at_opening : (s : AgentState) (r : Reply) → is_again r ≡ false → is_open s.stage ≡ false → after_reply s r ≡ after_opening s r
unfolding after_reply
at_opening s r again shut =
    ap (λ b. cond b s (cond (is_open s.stage) (after_serving s s.act r) (after_opening s r))) again
    ∙ ap (λ b. cond b (after_serving s s.act r) (after_opening s r)) shut

-- after the reply to a call that is no want's request, where b says that a return is to be requested
abbrev after_asked : AgentState → Reply → Bool → AgentState
after_asked s r b = cond b (after_returning s r) (advanced (after_duty s (duty_of s) r))

pub at_duty : (s : AgentState) (r : Reply) (d : Duty) → is_again r ≡ false → IsNext s d → after_reply s r ≡ advanced (after_duty s d r)
at_duty s r d again n =
    at_serving s r None again n.serves n.idle ∙ ap (λ b. cond b (after_asking s r) (after_asked s r (is_returning s.back))) n.asked
    ∙ ap (after_asked s r) n.sent ∙ ap (λ x. advanced (after_duty s x r)) n.duty

pub at_request : (s : AgentState) (r : Reply) → is_again r ≡ false → IsRequesting s → after_reply s r ≡ after_asking s r
at_request s r again n =
    at_serving s r None again n.serves n.idle ∙ ap (λ b. cond b (after_asking s r) (after_asked s r (is_returning s.back))) n.asks

pub at_return : (s : AgentState) (r : Reply) → is_again r ≡ false → IsReturning s → after_reply s r ≡ after_returning s r
at_return s r again n =
    at_serving s r None again n.serves n.idle ∙ ap (λ b. cond b (after_asking s r) (after_asked s r (is_returning s.back))) n.asked
    ∙ ap (after_asked s r) n.returns

-- an agent that has an act serves
act_serves : (s : AgentState) (a : Act) → s.act ≡ Some a → IsKept s → is_open s.stage ≡ true
act_serves s a e k = by (is_open s.stage) refl
  where
    by : (b : Bool) → is_open s.stage ≡ b → is_open s.stage ≡ true
    by true f = f
    by false f = let none : s.act ≡ None = (k.idle f).3 in absurd (cc)

-- ---- a session comes in

module _ (s : AgentState) (r : Reply) (h : Handle) where
  -- the agent with one more session
  abbrev with_session : AgentState → AgentState
  with_session x = record x { giving = x.giving ++ record { handle = h; offer = None; first = true } ∷ [] }

  joined : (x : AgentState) (o : Option Handle) → o ≡ Some h → length x.giving < 64 → after_incoming x o ≡ with_session x
  joined x o e few =
      let fits : nat_lt (length x.giving) 64 ≡ true = elim (lt_tells (length x.giving) 64) [
        | inl t ↦ t.0
        | inr t ↦ let many : 64 ≤ length x.giving = t.1 in absurd (omega arith)
      ]
      in ap (after_incoming x) e ∙ ap (λ b. cond b (with_session x) x) fits

  answered : (o : Reply) → incoming_in (answer_in o) ≡ Some h → is_answered o ≡ true
  answered (reply.Api a) e = refl
  answered _ e = absurd (cc)

  coming : Happens s r (comes_in h) → Effect s (comes_in h) (after_reply s r)
  coming (inl opens, told, few) =
      let e : after_reply s r ≡ after_opening s r = at_opening s r (told_again incoming_in r h refl told) (ap is_open opens)
      in let f : after_opening s r ≡ with_session (record s { stage = stage.Serving })
      = ap (λ st. after_opening (record s { stage = st }) r) opens
      ∙ ap (λ b. cond b (after_incoming (record s { stage = stage.Serving }) (incoming_in (answer_in r)))
      (record s { stage = stage.Opening })) (answered r told)
      ∙ joined (record s { stage = stage.Serving }) (incoming_in (answer_in r)) told few
      in subst (Effect s (comes_in h)) (sym (e ∙ f)) (refl, (refl, refl), refl, refl, refl)
  coming (inr next, told, few) =
      let e : after_reply s r ≡ advanced (with_session s)
      = at_duty s r duty.Listen (told_again incoming_in r h refl told) next ∙ ap advanced (joined s (incoming_in (answer_in r)) told few)
      in subst (Effect s (comes_in h)) (sym e) (refl, (refl, refl), refl, refl, refl)

  -- ---- the request of a want

  asked_started : (o : Reply) → started_in (answer_in o) ≡ Some h → after_asking s o ≡ after_starting s s.want (Some h)
  asked_started (reply.Api a) e = ap (after_starting s s.want) e
  asked_started _ e = absurd (cc)

  starting : Happens s r (starts h) → Effect s (starts h) (after_reply s r)
  starting (n, told) = by s.want refl n.asks
    where
      by : (w : Option Want) → s.want ≡ w → is_asking w ≡ true → Effect s (starts h) (after_reply s r)
      by None e asks = absurd (cc)
      by (Some w) e asks =
          let f : after_reply s r ≡ record s { want = Some (record w { session = Some h }) }
          = at_request s r (told_again started_in r h refl told) n ∙ asked_started r told ∙ ap (λ x. after_starting s x (Some h)) e
          in subst (Effect s (starts h)) (sym f) (refl, refl, refl, refl, refl, (w, e, refl))

refusing : (s : AgentState) (r : Reply) (x : ApiRefused) → Happens s r (is_refused x) → Effect s (is_refused x) (after_reply s r)
refusing s r x (n, is, last) =
    let e : after_reply s r ≡ finished s (end.Refused x) = at_request s r last n ∙ ap (after_asking s) is
    in subst (Effect s (is_refused x)) (sym e) (refl, refl, refl, refl, refl, refl)

-- ---- the session of a want

-- the want of the next duty
next_want : (s : AgentState) (h : Handle) → IsNext s (duty.Want h) → (w : Want) × (s.want ≡ Some w)
next_want s h n = by s.want refl (its_duty s (duty.Want h) n.duty)
  where
    by : (w : Option Want) → s.want ≡ w → want_session s.want ≡ Some h → (x : Want) × (s.want ≡ Some x)
    by None e at = let none : want_session s.want ≡ None = ap want_session e in absurd (cc)
    by (Some w) e at = (w, e)

considering : (s : AgentState) (r : Reply) (h : Handle) (o : Objective) → Happens s r (considers h o) → Effect s (considers h o) (after_reply s r)
considering s r h o (n, told) =
    let w : Want = (next_want s h n).0
    in let has : s.want ≡ Some w = (next_want s h n).1
    in let e : after_reply s r ≡ advanced (record s { act = Some (want_act h (requester_decision s.pool w.length w.longest o.value o.loops)) })
    = at_duty s r (duty.Want h) (told_again progress_in r (progress.Turn o) refl told) n ∙ ap (λ p. advanced (after_want_progress s s.want h p)) told
    ∙ ap (λ x. advanced (after_want_progress s x h (Some (progress.Turn o)))) has
    in subst (Effect s (considers h o)) (sym e) (
      refl,
      refl,
      (refl, refl),
      refl,
      record {
        want = w;
        decision = requester_decision s.pool w.length w.longest o.value o.loops;
        wanted = has;
        decides = (requesters_decide s.pool w.length w.longest o.value o.loops (requester_decision s.pool w.length w.longest o.value o.loops)).0 refl;
        act = refl;
      },
    )

-- how a want ends
ends_as : (e : Outcome) → EndsAs e (want_end e)
ends_as (outcome.Agreed Mine o) = by (offered_in o.value) refl
  where
    by : (p : Option Prefix) → offered_in o.value ≡ p → EndsAs (outcome.Agreed Mine o) (held_end p)
    by None f = inr (inr (o, refl, f))
    by (Some p) f = (o, refl, f)
ends_as (outcome.Agreed Theirs o) = (o, refl)
ends_as (outcome.Declined by reason) = (by, reason, refl)
ends_as (outcome.Synchronized o) = inr (inl (o, refl))
ends_as (outcome.TimedOut deadline now) = (deadline, now, refl)
ends_as outcome.Broken = refl
ends_as outcome.OutOfMemory = refl
ends_as (outcome.Invalid by) = inl (by, refl)

finishing : (s : AgentState) (r : Reply) (h : Handle) (o : Outcome) → Happens s r (finishes h o) → Effect s (finishes h o) (after_reply s r)
finishing s r h o (n, told) =
    let w : Want = (next_want s h n).0
    in let has : s.want ≡ Some w = (next_want s h n).1
    in let e : after_reply s r ≡ advanced (finished s (want_end o))
    = at_duty s r (duty.Want h) (told_again progress_in r (progress.Ended o) refl told) n ∙ ap (λ p. advanced (after_want_progress s s.want h p)) told
    ∙ ap (λ x. advanced (after_want_progress s x h (Some (progress.Ended o)))) has
    in subst (Effect s (finishes h o)) (sym e) (refl, refl, refl, refl, refl, (want_end o, ends_as o, refl))

-- ---- acts

-- an acceptance that is done gains its prefix
pub accepted_gains : (s : AgentState) (h : Handle) (p : Prefix) → s.act ≡ Some (act.Accept h p) → IsKept s → Gains s.pool (after_gaining s.pool p) p
accepted_gains s h p is k =
    let stands : ActStands s (act.Accept h p) = act_stands s (act.Accept h p) is k
    in let new = (can_gain_tells s.pool p).0 stands.2
    in let gained : after_gaining s.pool p ≡ after_gain s.pool p = ap (λ b. cond b (after_gain s.pool p) s.pool) stands.2
    in subst (λ x. Gains s.pool x p) (sym gained) (gain_means s.pool p k.pool stands.1 new.0)

making : (s : AgentState) (r : Reply) (a : Act) → IsKept s → Happens s r (is_made a) → Effect s (is_made a) (after_reply s r)
making s r a k (is, done) =
    let e : after_reply s r ≡ after_doing s a
    = at_serving s r (Some a) (ap is_again done) (act_serves s a is k) is ∙ ap (after_act s a) done
    in subst (Effect s (is_made a)) (sym e) (by a is)
  where
    by : (x : Act) → s.act ≡ Some x → Effect s (is_made x) (after_doing s x)
    by (act.Accept h p) f = (refl, (refl, refl), refl, refl, accepted_gains s h p f k)
    by _ f = (refl, (refl, refl), refl, refl, refl)

-- an act is dropped
pub drops_so : (s : AgentState) (a : Act) → s.act ≡ Some a → IsKept s → Effect s (is_dropped a) (after_dropping s a)
drops_so s (act.Offer place h p) is k =
    let stands : ActStands s (act.Offer place h p) = act_stands s (act.Offer place h p) is k
    in (
      (refl, refl),
      refl,
      refl,
      (back_means s.pool p k.pool (act_reserved s place h p is k), without_is s.giving place (record { handle = h; offer = Some p; first = false }) stands),
    )
drops_so s _ is k = ((refl, refl), refl, refl, (refl, refl))

dropping : (s : AgentState) (r : Reply) (a : Act) → IsKept s → Happens s r (is_dropped a) → Effect s (is_dropped a) (after_reply s r)
dropping s r a k (is, refused, last) =
    let e : after_reply s r ≡ after_dropping s a
    = at_serving s r (Some a) last (act_serves s a is k) is ∙ ap (after_act s a) refused.1
    in subst (Effect s (is_dropped a)) (sym e) (drops_so s a is k)

-- ---- giving sessions

-- what is decided is given
gives_so : (h : Holding) (d : GiverDecision) → GivenBy h d → Gives d h (after_deciding h d)
gives_so h (giver.Offer p) given = given.reserves
gives_so h _ given = refl

giving : (s : AgentState) (r : Reply) (place : ℕ) (g : Giving) (o : Objective) → IsKept s → Happens s r (gives place g o)
    → Effect s (gives place g o) (after_reply s r)
giving s r place g o k (n, at, told) =
    let pool : IsPool (giving_back s.pool g.offer) = (between s place g at k).pool
    in let e : after_reply s r ≡ advanced (after_giver_turn s place g o)
    = at_duty s r (duty.Give place g.handle) (told_again progress_in r (progress.Turn o) refl told) n
    ∙ ap (λ p. advanced (after_give_progress s place (slice_get s.giving place) p)) told
    ∙ ap (λ x. advanced (after_give_progress s place x (Some (progress.Turn o)))) at
    in subst (Effect s (gives place g o)) (sym e) (
      (refl, refl),
      refl,
      record {
        between = giving_back s.pool g.offer;
        decision = giver_decision (giving_back s.pool g.offer) o.value o.loops g.first;
        back = takes_back s.pool g.offer k.pool (offer_reserved s place g at k);
        decides = (givers_decide (giving_back s.pool g.offer) o.value o.loops g.first
            (giver_decision (giving_back s.pool g.offer) o.value o.loops g.first) pool).0 refl;
        pool = gives_so (giving_back s.pool g.offer) (giver_decision (giving_back s.pool g.offer) o.value o.loops g.first)
            (give_given (giving_back s.pool g.offer) o.value o.loops g.first pool);
        giving = refl;
        act = refl;
      },
    )

-- an offer whose session ended
settles_offer : (h : Holding) (o : Option Prefix) (e : Outcome) → IsPool h → IfSome o (λ p. Contains h.reserved p) → SettlesOffer o e h (settling h o e)
settles_offer h None e pool has = refl
settles_offer h (Some p) e pool has = settles h p e pool has

leaving : (s : AgentState) (r : Reply) (place : ℕ) (g : Giving) (o : Outcome) → IsKept s → Happens s r (leaves place g o)
    → Effect s (leaves place g o) (after_reply s r)
leaving s r place g o k (n, at, told) =
    let e : after_reply s r ≡ advanced (after_giver_end s place g o)
    = at_duty s r (duty.Give place g.handle) (told_again progress_in r (progress.Ended o) refl told) n
    ∙ ap (λ p. advanced (after_give_progress s place (slice_get s.giving place) p)) told
    ∙ ap (λ x. advanced (after_give_progress s place x (Some (progress.Ended o)))) at
    in subst (Effect s (leaves place g o)) (sym e) ((refl, refl), refl, refl, settles_offer s.pool g.offer o k.pool (offer_reserved s place g at k), refl)

-- ---- the return

handing : (s : AgentState) (r : Reply) (h : Handle) → Happens s r (hands h) → Effect s (hands h) (after_reply s r)
handing s r h (n, told) =
    subst (Effect s (hands h)) (sym (at_return s r (told_again started_in r h refl told) n ∙ returned_started s r h told))
    (hands_so s s.back h refl n.returns)

unsending : (s : AgentState) (r : Reply) (x : ApiRefused) → IsKept s → Happens s r (is_unsent x) → Effect s (is_unsent x) (after_reply s r)
unsending s r x k (n, is, last) =
    subst (Effect s (is_unsent x)) (sym (at_return s r last n ∙ ap (after_returning s) is)) (unsent_so s s.back x refl n.returns k)

hearing : (s : AgentState) (r : Reply) (h : Handle) (e : Outcome) → IsKept s → Happens s r (hears h e) → Effect s (hears h e) (after_reply s r)
hearing s r h e k (n, told) =
    subst (Effect s (hears h e))
    (sym (at_duty s r (duty.Return h) (told_again progress_in r (progress.Ended e) refl told) n ∙ ap (λ p. advanced (after_back_progress s s.back p)) told))
    (hears_so s s.back h e refl (its_duty s (duty.Return h) n.duty) k)

-- ---- all moves

pub moves_are_made : MovesAreMade
moves_are_made s r (comes_in h) k happens = coming s r h happens
moves_are_made s r (starts h) k happens = starting s r h happens
moves_are_made s r (is_refused x) k happens = refusing s r x happens
moves_are_made s r (considers h o) k happens = considering s r h o happens
moves_are_made s r (finishes h e) k happens = finishing s r h e happens
moves_are_made s r (hands h) k happens = handing s r h happens
moves_are_made s r (is_unsent x) k happens = unsending s r x k happens
moves_are_made s r (hears h e) k happens = hearing s r h e k happens
moves_are_made s r (is_made a) k happens = making s r a k happens
moves_are_made s r (is_dropped a) k happens = dropping s r a k happens
moves_are_made s r (gives place g o) k happens = giving s r place g o k happens
moves_are_made s r (leaves place g e) k happens = leaving s r place g e k happens
