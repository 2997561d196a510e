-- A prefix that an agent's own call puts in doubt was the last offer of a session that the call has polled, and that is no longer live.
use Rattle.std.proofs.Common.{◌≡◌, ◌⊎◌, inl, inr, refl, sym, ap, ◌∙◌, subst, arith, Bool, true, false, List, Contains, Option, Some, None}
use Rattle.std.proofs.lemmas.Bool.{false≢true}
use Rattle.std.proofs.lemmas.Option.{none-some}
use Rattle.grasp_agent.specs.Calls.{duty_call, next_call}
use Rattle.grasp_agent.specs.Kept.{IsKept}
use Rattle.grasp_agent.specs.Replies.{after_reply, answer_in, progress_in}
use Rattle.grasp_agent.specs.States.{AgentState, back_session}
use Rattle.grasp_agent.specs.declared.act.Act.{Act}
use Rattle.grasp_agent.specs.declared.act.Act.TheVariants as act
use Rattle.grasp_agent.specs.declared.back.Return.{Return}
use Rattle.grasp_agent.specs.declared.decision.GiverDecision.{GiverDecision}
use Rattle.grasp_agent.specs.declared.decision.GiverDecision.TheVariants as giver
use Rattle.grasp_agent.specs.declared.duty.Duty.{Duty}
use Rattle.grasp_agent.specs.declared.duty.Duty.TheVariants as duty
use Rattle.grasp_laws_agent.proofs.LawMoves.{moves_are_made}
use Rattle.grasp_laws_agent.proofs.LawNext.{next_calls_are}
use Rattle.grasp_laws_agent.proofs.LawStays.{nothing_else_moves}
use Rattle.grasp_laws_agent.specs.Moves as move
use Rattle.grasp_laws_agent.specs.Moves.{Does, Drops, Effect, Gives, Happens, IsNext, Move, NothingMoves, Settled, SettlesOffer, TakesBack}
use Rattle.grasp_laws_agent.specs.Next.{IsDuty, NextIs, opens, acts, requests, hands_back, does}
use Rattle.grasp_laws_agents.proofs.Going.{StillOwn, own_on}
use Rattle.grasp_laws_agents.proofs.GoingOn.{heard_alike, heard_offer, heard_offered}
use Rattle.grasp_laws_agents.proofs.Places.{owned_at}
use Rattle.grasp_laws_agents.specs.Calls.{CallsMean}
use Rattle.grasp_laws_agents.specs.Giving.{HasOffered, IsOwnSession, OffersIn, in_entry, in_return, offered_by}
use Rattle.grasp_laws_agents.specs.GoingOn.{OnlyHeard, OnlyHears, OwnGoOn}
use Rattle.grasp_laws_node.specs.Means.{PollFacts}
use Rattle.grasp_laws_prefixes.proofs.EntryOffers.{one_offer}
use Rattle.grasp_laws_prefixes.proofs.OwnSessions.{one_session}
use Rattle.grasp_model_node.specs.Node.{NodeState}
use Rattle.grasp_model_node.specs.Step.{Calls}
use Rattle.grasp_pool.specs.Holdings.{Holding}
use Rattle.grasp_session.specs.Conversation.{has_offered}
use Rattle.grasp_session.specs.Messages.{Side, Near, Far}
use Rattle.grasp_session.specs.Sessions.{SessionState, session_at}
use Rattle.grasp_session.specs.Transcript.{Transcript, is_mine, known, my_offer, outcome_of}
use Rattle.grasp_types.specs.Prefix.{AddressBlock as Prefix}
use Rattle.grasp_types.specs.declared.call.Call.{Call}
use Rattle.grasp_types.specs.declared.call.Call.TheVariants as call
use Rattle.grasp_types.specs.declared.objective.Objective.{Objective}
use Rattle.grasp_types.specs.declared.reply.ApiAnswer.{ApiAnswer}
use Rattle.grasp_types.specs.declared.reply.ApiAnswer.TheVariants as answer
use Rattle.grasp_types.specs.declared.reply.Reply.{Reply}
use Rattle.grasp_types.specs.declared.reply.Reply.TheVariants as reply
use Rattle.grasp_types.specs.declared.session.By.TheVariants.{Mine, Theirs}
use Rattle.grasp_types.specs.declared.session.Handle.{Handle}
use Rattle.grasp_types.specs.declared.session.Outcome.{Outcome}
use Rattle.grasp_types.specs.declared.session.Outcome.TheVariants as outcome
use Rattle.grasp_types.specs.declared.session.Progress.TheVariants as progress

-- ---- what stands while this end says nothing

pub still_offered : (v w : Transcript) (p : Prefix) → OnlyHears v w → HasOffered v p → HasOffered w p
still_offered v w p h o = record {
  made = ap (λ (i : Side). has_offered i (known w)) (heard_alike v w h).role ∙ (heard_offered v w h ∙ o.made);
  offer = ap (λ (i : Side). offered_by i (my_offer w).value) (heard_alike v w h).role ∙ (ap (λ (q : Objective). offered_by v.role q.value) (heard_offer v w h) ∙ o.offer);
}

-- ---- what a reply puts in doubt

-- the prefix was reserved, and is in doubt then
module _ (a : AgentState) (r : Reply) (p : Prefix) (kept : IsKept a) (reserved : Contains a.pool.reserved p) (doubtful : Contains (after_reply a r).pool.doubtful p) where
  abbrev b : AgentState
  b = after_reply a r

  same : {A : Type 0} → b.pool.doubtful ≡ a.pool.doubtful → A
  same e = absurd (kept.pool.once p reserved (subst (λ (ps : List Prefix). Contains ps p) e doubtful))

  same_pool : {A : Type 0} → b.pool ≡ a.pool → A
  same_pool e = same (ap (λ (h : Holding). h.doubtful) e)

  new_doubt : (q : Prefix) → Contains a.pool.doubtful p ⊎ (p ≡ q) → p ≡ q
  new_doubt q (inl was) = absurd (kept.pool.once p reserved was)
  new_doubt q (inr e) = e

  -- what is in doubt once an offer is settled was so, or is the offer
  settled : (e : Outcome) (q : Prefix) → Settled e q a.pool b.pool → p ≡ q
  settled (outcome.Agreed Theirs u) q s = same s.doubtful
  settled (outcome.Agreed Mine u) q s = new_doubt q ((s.doubtful p).0 doubtful)
  settled (outcome.Declined Theirs reason) q s = same s.doubtful
  settled (outcome.Declined Mine reason) q s = new_doubt q ((s.doubtful p).0 doubtful)
  settled (outcome.Synchronized u) q s = new_doubt q ((s.doubtful p).0 doubtful)
  settled (outcome.TimedOut deadline now) q s = new_doubt q ((s.doubtful p).0 doubtful)
  settled outcome.Broken q s = new_doubt q ((s.doubtful p).0 doubtful)
  settled outcome.OutOfMemory q s = new_doubt q ((s.doubtful p).0 doubtful)
  settled (outcome.Invalid by) q s = new_doubt q ((s.doubtful p).0 doubtful)

  settled_offer : (e : Outcome) (o : Option Prefix) → SettlesOffer o e a.pool b.pool → o ≡ Some p
  settled_offer e None s = same_pool s
  settled_offer e (Some q) s = ap (λ (z : Prefix). Some z) (sym (settled e q s))

  taken_back : (o : Option Prefix) (old new : Holding) → TakesBack o old new → new.doubtful ≡ old.doubtful
  taken_back None old new t = ap (λ (h : Holding). h.doubtful) t
  taken_back (Some q) old new t = t.doubtful

  decided : (d : GiverDecision) (old new : Holding) → Gives d old new → new.doubtful ≡ old.doubtful
  decided (giver.Offer q) old new g = g.doubtful
  decided (giver.Accept q) old new g = ap (λ (h : Holding). h.doubtful) g
  decided (giver.Decline reason) old new g = ap (λ (h : Holding). h.doubtful) g

  done : (c : Act) (old new : Holding) → Does c old new → new.doubtful ≡ old.doubtful
  done (act.Offer place h q) old new d = ap (λ (z : Holding). z.doubtful) d
  done (act.Counter h n) old new d = ap (λ (z : Holding). z.doubtful) d
  done (act.Accept h q) old new d = d.doubtful
  done (act.Decline h reason) old new d = ap (λ (z : Holding). z.doubtful) d

  dropped : (c : Act) → Drops c a b → b.pool.doubtful ≡ a.pool.doubtful
  dropped (act.Offer place h q) d = d.0.doubtful
  dropped (act.Counter h n) d = ap (λ (z : Holding). z.doubtful) d.0
  dropped (act.Accept h q) d = ap (λ (z : Holding). z.doubtful) d.0
  dropped (act.Decline h reason) d = ap (λ (z : Holding). z.doubtful) d.0

  -- the session of a duty, whose end is told, and in which the prefix was offered
  pub record IsEnding : Type 0 where
    pub side : Side
    pub handle : Handle
    pub offers : OffersIn a side handle p
    pub duty : Duty
    pub next : IsNext a duty
    pub polls : duty_call duty ≡ call.Poll handle
    pub outcome : Outcome
    pub told : progress_in (answer_in r) ≡ Some (progress.Ended outcome)

  -- the duty of a return is that of its session
  returns : (h : Handle) → IsNext a (duty.Return h) → back_session a.back ≡ Some h
  returns h next = by_next (next_call a) (next_calls_are a) where
    by_next : (c : Call) → NextIs a c → back_session a.back ≡ Some h
    by_next _ (opens shut) = absurd (false≢true (sym shut ∙ next.serves))
    by_next _ (acts k serves is) = absurd (none-some k (sym next.idle ∙ is))
    by_next _ (requests w asks is none) = absurd (false≢true (sym next.asked ∙ asks.asks))
    by_next _ (hands_back z gives is none) = absurd (false≢true (sym next.sent ∙ gives.returns))
    by_next _ (does d is of) = subst (λ (e : Duty). IsDuty a e) (sym is.duty ∙ next.duty) of

  session_of : (o : Option Return) (z : Return) (h : Handle) → o ≡ Some z → back_session o ≡ Some h → z.session ≡ Some h
  session_of o z h is e = ap back_session (sym is) ∙ e

  moved : (m : Move) → Happens a r m → Effect a m b → IsEnding
  moved (move.comes_in h) is e = same_pool e.0
  moved (move.starts h) is e = same_pool e.0
  moved (move.is_refused x) is e = same_pool e.0
  moved (move.considers h o) is e = same_pool e.0
  moved (move.finishes h o) is e = same_pool e.0
  moved (move.hands h) is e = same_pool e.0
  moved (move.is_unsent x) is e = same e.4.2.doubtful
  moved (move.is_made c) is e = same (done c a.pool b.pool e.4)
  moved (move.is_dropped c) is e = same (dropped c e.3)
  moved (move.gives place g o) is e =
      let t = e.2 in same (decided t.decision t.between b.pool t.pool ∙ taken_back g.offer a.pool t.between t.back)
  moved (move.hears h o) is e = record {
    side = Near;
    handle = h;
    offers = in_return refl e.4.0 e.4.1 (session_of a.back e.4.0 h e.4.1 (returns h is.0)) (sym (settled o e.4.0.prefix e.4.2));
    duty = duty.Return h;
    next = is.0;
    polls = refl;
    outcome = o;
    told = is.1;
  }
  moved (move.leaves place g o) is e = record {
    side = Far;
    handle = g.handle;
    offers = in_entry refl place g is.1 refl (settled_offer o g.offer e.3);
    duty = duty.Give place g.handle;
    next = is.0;
    polls = refl;
    outcome = o;
    told = is.2;
  }

  pub ending : IsEnding
  ending = by_move (nothing_else_moves a r) where
    by_move : ((m : Move) × Happens a r m) ⊎ NothingMoves a b → IsEnding
    by_move (inl m) = moved m.0 m.1 (moves_are_made a r m.0 kept m.1)
    by_move (inr n) = same_pool n.pool

-- ---- the session that was polled

-- a session that was told to end so is no longer live
pub record HasLeft (n after : NodeState) (h : Handle) : Type 0 where
  pub session : SessionState
  pub was : session_at n.sessions h ≡ Some session
  pub gone : Contains after.sessions.gone session

polled : (means : CallsMean) (n after : NodeState) (h : Handle) (r : Reply) (o : Outcome) → progress_in (answer_in r) ≡ Some (progress.Ended o) → Calls n 1 (call.Poll h) r after → HasLeft n after h
polled means n after h (reply.Api ans) o told t = by_outcome (outcome_of f.session.view) refl where
  f : PollFacts n 1 h ans after
  f = subst (PollFacts n 1 h ans) (sym t.1) (means.polls n 1 h ans t.0)

  was : session_at n.sessions h ≡ Some f.session
  was = owned_at n.sessions 1 h f.session f.holds.owned

  no_turn : (q : Objective) → ans ≡ answer.Polled (progress.Turn q) → HasLeft n after h
  no_turn q is = let clash : Some (progress.Turn q) ≡ Some (progress.Ended o) = sym (ap (λ (x : ApiAnswer). progress_in (Some x)) is) ∙ told in absurd (cc)

  not_yet : ans ≡ answer.Polled progress.NotYet → HasLeft n after h
  not_yet is = let clash : Some progress.NotYet ≡ Some (progress.Ended o) = sym (ap (λ (x : ApiAnswer). progress_in (Some x)) is) ∙ told in absurd (cc)

  by_mine : (b : Bool) → is_mine f.session.view ≡ b → outcome_of f.session.view ≡ None → HasLeft n after h
  by_mine true mine none = no_turn _ (f.turn none mine).0
  by_mine false mine none = not_yet (f.waiting none mine).0

  by_outcome : (x : Option Outcome) → outcome_of f.session.view ≡ x → HasLeft n after h
  by_outcome None none = by_mine (is_mine f.session.view) refl none
  by_outcome (Some x) is = record {
    session = f.session;
    was = was;
    gone = subst (λ (m : NodeState). Contains m.sessions.gone f.session) (sym (f.ended x is).1) (0, omega arith, refl);
  }
polled means n after h (reply.Refused x) o told t = let clash : None ≡ Some (progress.Ended o) = told in absurd (cc)
polled means n after h _ o told t = absurd t

-- ---- the step

-- the session in which the prefix was offered is no longer live, and its end has said nothing since
pub record HasEnded (n after : NodeState) (x : SessionState) : Type 0 where
  pub session : SessionState
  pub gone : Contains after.sessions.gone session
  pub heard : OnlyHeard x session

module _ (means : CallsMean) (n m after : NodeState) (a : AgentState) (r : Reply) (p : Prefix) (kept : IsKept a) (goes : OwnGoOn n.sessions m.sessions)
    (calls : Calls m 1 (next_call a) r after) (reserved : Contains a.pool.reserved p) (doubtful : Contains (after_reply a r).pool.doubtful p) where
  ends : IsEnding a r p kept reserved doubtful
  ends = ending a r p kept reserved doubtful

  polls_it : Calls m 1 (call.Poll ends.handle) r after
  polls_it = subst (λ (c : Call). Calls m 1 c r after) ends.polls (by_next (next_call a) (next_calls_are a) calls) where
    by_next : (c : Call) → NextIs a c → Calls m 1 c r after → Calls m 1 (duty_call ends.duty) r after
    by_next _ (opens shut) t = absurd (false≢true (sym shut ∙ ends.next.serves))
    by_next _ (acts k serves is) t = absurd (none-some k (sym ends.next.idle ∙ is))
    by_next _ (requests w asks is none) t = absurd (false≢true (sym ends.next.asked ∙ asks.asks))
    by_next _ (hands_back z gives is none) t = absurd (false≢true (sym ends.next.sent ∙ gives.returns))
    by_next _ (does d is of) t = subst (λ (e : Duty). Calls m 1 (duty_call e) r after) (sym is.duty ∙ ends.next.duty) t

  left_it : HasLeft m after ends.handle
  left_it = polled means m after ends.handle r ends.outcome ends.told polls_it

  pub idle : a.act ≡ None
  idle = ends.next.idle

  pub has_ended : (side : Side) (h : Handle) (x : SessionState) → OffersIn a side h p → IsOwnSession n.sessions h side x → HasEnded n after x
  has_ended side h x offers own = from (own_on n.sessions m.sessions h side x goes own) where
    from : StillOwn m.sessions h side x → HasEnded n after x
    from still = record {
      session = still.session;
      gone = subst (Contains after.sessions.gone) (one_session m.sessions h left_it.session still.session (ap (session_at m.sessions) (one_offer a side ends.side h ends.handle p kept offers ends.offers) ∙ left_it.was) still.own.at) left_it.gone;
      heard = still.over;
    }
