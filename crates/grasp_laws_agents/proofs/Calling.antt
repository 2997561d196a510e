-- What the agent's next call makes of the node where its step has begun, and of the agent.
use Rattle.std.proofs.Common.{◌≡◌, ◌⊎◌, refl, sym, ap, ◌∙◌, subst, inl, inr, ℕ, ◌+◌, ◌*◌, ◌<◌, ◌≤◌, nat_lt, Bool, true, false, cond, [], ◌∷◌, ◌++◌, length, Contains, Option, None, Some, IfSome, Ok, slice_get, slice_set}
use Rattle.std.proofs.lemmas.Bool.{false≢true}
use Rattle.grasp_agent.proofs.Keeping.{act_stands, offer_reserved}
use Rattle.grasp_agent.proofs.Reading.{return_again}
use Rattle.grasp_agent.proofs.Returning.{return_reserved}
use Rattle.grasp_laws_agent.proofs.Facts.{takes_back, itself}
use Rattle.grasp_laws_agent.proofs.LawMoves.{at_duty, moves_are_made}
use Rattle.grasp_laws_agent.proofs.LawNext.{next_calls_are}
use Rattle.grasp_agent.specs.Calls.{act_call, want_call, return_call, next_call, objective_name, reason_text}
use Rattle.grasp_agent.specs.Kept.{ActStands, IsKept}
use Rattle.grasp_laws_agent.specs.Moves.{comes_in, starts, is_refused, considers, finishes, hands, is_unsent, hears, is_made, is_dropped, leaves, IsNext, IsRequesting, IsReturning, Effect, NothingMoves}
use Rattle.grasp_laws_agent.specs.Next.{NextIs, opens, acts, requests, hands_back, does}
use Rattle.grasp_agent.specs.Decisions.{giver_decision}
use Rattle.grasp_agent.specs.Replies.{answer_in, is_again, started_in, progress_in, giving_back, deciding, give_act, after_want_progress, after_back_progress, after_give_progress, after_giver_turn, after_duty, after_serving, after_opening, advanced, after_reply}
use Rattle.grasp_agent.specs.States.{AgentState, is_open, back_session, want_session}
use Rattle.grasp_agent.specs.Values.{length_value, prefix_value, return_value, returned_in}
use Rattle.grasp_agent.specs.declared.act.Act.{Act}
use Rattle.grasp_agent.specs.declared.act.Act.TheVariants as act
use Rattle.grasp_agent.specs.declared.back.Return.{Return}
use Rattle.grasp_agent.specs.declared.duty.Duty.{Duty}
use Rattle.grasp_agent.specs.declared.duty.Duty.TheVariants as duty
use Rattle.grasp_agent.specs.declared.giving.Giving.{Giving}
use Rattle.grasp_agent.specs.declared.stage.Stage.TheVariants.{Serving}
use Rattle.grasp_agent.specs.declared.want.Want.{Want}
use Rattle.grasp_cbor.specs.DataItem.{DataItem}
use Rattle.grasp_laws_node.specs.Means.{ListenTells, Takes, PollFacts, StepFacts, EndFacts}
use Rattle.grasp_model_node.specs.Draws.{next_session}
use Rattle.grasp_laws_node.specs.MeansRequests.{RequestFacts, negotiable}
use Rattle.grasp_model_node.specs.Node.{NodeState}
use Rattle.grasp_model_node.specs.BoundedNodes.{IsBoundedNode}
use Rattle.grasp_model_node.specs.Step.{Calls, MayCall, after_call}
use Rattle.grasp_pool.proofs.Lists.{lt_tells}
use Rattle.grasp_pool.proofs.Meanings.{back_keeps}
use Rattle.grasp_pool.specs.Holdings.{Holding}
use Rattle.grasp_pool.specs.Pools.{IsPool}
use Rattle.grasp_laws_session.proofs.Made.{views_built}
use Rattle.grasp_laws_session.proofs.Unstepped.{unstepped_hear_none}
use Rattle.grasp_session.proofs.Tables.{state_slot}
use Rattle.grasp_session.specs.Conversation.{has_offered}
use Rattle.grasp_session.specs.Made.{IsBuilt, IsFresh, AreFresh}
use Rattle.grasp_session.specs.Messages.{Near, Far}
use Rattle.grasp_session.specs.Says.{IsAt}
use Rattle.grasp_session.specs.Sessions.{SessionState, with_owner}
use Rattle.grasp_types.specs.declared.session.Kind.TheVariants.{Negotiation}
use Rattle.grasp_session.specs.Transcript.{opening, is_going, SayStep, SayEnd, is_mine, known, outcome_of, peer_offer, request_of}
use Rattle.grasp_types.specs.Prefix.{AddressBlock as Prefix}
use Rattle.grasp_types.specs.declared.call.Call.{Call}
use Rattle.grasp_types.specs.declared.call.Call.TheVariants as call
use Rattle.grasp_types.specs.declared.address.Address.{Address}
use Rattle.grasp_types.specs.declared.address.Locator.{Locator}
use Rattle.grasp_types.specs.declared.objective.Objective.{Objective}
use Rattle.grasp_types.specs.declared.message.Verdict.{Verdict}
use Rattle.grasp_types.specs.declared.message.Verdict.TheVariants as verdict
use Rattle.grasp_types.specs.declared.refusal.ApiRefused.{ApiRefused}
use Rattle.grasp_types.specs.declared.reply.ApiAnswer.{ApiAnswer}
use Rattle.grasp_types.specs.declared.reply.ApiAnswer.TheVariants as answer
use Rattle.grasp_types.specs.declared.reply.Reply.{Reply}
use Rattle.grasp_types.specs.declared.reply.Reply.TheVariants as reply
use Rattle.grasp_types.specs.declared.session.Handle.{Handle}
use Rattle.grasp_types.specs.declared.session.Outcome.{Outcome}
use Rattle.grasp_types.specs.declared.session.Progress.{Progress}
use Rattle.grasp_types.specs.declared.session.Progress.TheVariants as progress
use Rattle.grasp_laws_agents.proofs.Back.{handed, unsent, heard}
use Rattle.grasp_laws_agents.proofs.Coming as coming
use Rattle.grasp_laws_agents.proofs.Deciding.{decided}
use Rattle.grasp_laws_agents.proofs.Dropping.{refused, dropped}
use Rattle.grasp_laws_agents.proofs.Known.{none_goes_on}
use Rattle.grasp_laws_agents.proofs.Leaving.{finished, gave}
use Rattle.grasp_laws_agents.proofs.Places.{owned_at}
use Rattle.grasp_laws_agents.proofs.Making.{Says, want_asked, made_offer, made_counter, made_decline, made_acceptance}
use Rattle.grasp_laws_agents.proofs.Sides.{length_plain, own_kind}
use Rattle.grasp_laws_agents.proofs.Standing.{Moved, PlainEntry, idle_entry, same_own, nothing_moved}
use Rattle.grasp_laws_agents.proofs.Starting.{Begins, started}
use Rattle.grasp_laws_agents.proofs.Turning.{is_deciding, considered, turned}
use Rattle.grasp_laws_agents.specs.Calls.{CallsMean}
use Rattle.grasp_laws_agents.specs.Giving.{IsDeciding, OfferStands, IsOwnSession, KeepsKind, Gives}

-- ---- where nothing moves

-- a poll that tells nothing leaves the agent
want_still : (a : AgentState) (w : Option Want) (h : Handle) → (after_want_progress a w h None ≡ a) × (after_want_progress a w h (Some progress.NotYet) ≡ a)
want_still a None h = (refl, refl)
want_still a (Some w) h = (refl, refl)

giving_still : (a : AgentState) (place : ℕ) (g : Option Giving) → (after_give_progress a place g None ≡ a) × (after_give_progress a place g (Some progress.NotYet) ≡ a)
giving_still a place None = (refl, refl)
giving_still a place (Some g) = (refl, refl)

-- and so does one of the return's session, which is never in its turn
back_still : (a : AgentState) (v : Option Return) → (after_back_progress a v None ≡ a) × (after_back_progress a v (Some progress.NotYet) ≡ a) × ((o : Objective) → after_back_progress a v (Some (progress.Turn o)) ≡ a)
back_still a None = (refl, refl, λ o. refl)
back_still a (Some v) = (refl, refl, λ o. refl)

-- a pool is one where an offer went back
back_pool : (h : Holding) (o : Option Prefix) → IsPool h → IfSome o (λ p. Contains h.reserved p) → IsPool (giving_back h o)
back_pool h None pool has = pool
back_pool h (Some p) pool has = back_keeps h p pool has

-- where its duty leaves the agent, only the cursor goes on
still : (a : AgentState) (r : Reply) (d : Duty) → IsNext a d → is_again r ≡ false → after_duty a d r ≡ a → NothingMoves a (after_reply a r)
still a r d next last e = subst (NothingMoves a) (sym (at_duty a r d last next ∙ ap advanced e)) (record { pool = refl; giving = refl; want = (refl, refl); back = refl; act = refl })

again : (a : AgentState) (r : Reply) → is_again r ≡ true → after_reply a r ≡ a
unfolding after_reply
again a r e = ap (λ b. cond b a (cond (is_open a.stage) (after_serving a a.act r) (after_opening a r))) e

-- ---- the call

module _ (means : CallsMean) (n after : NodeState) (a : AgentState) (sound : IsBoundedNode n) (fresh : AreFresh n.sessions) (kept : IsKept a) (stage : a.stage ≡ Serving) (k : Gives n a) where
  serves : is_open a.stage ≡ true
  serves = ap is_open stage

  built : (q : ℕ) (x : SessionState) → IsAt n.sessions q x → IsBuilt x.view
  built q x at = views_built n.sessions x sound.sessions (inl (q, at))

  -- the node is as it was, and so is the agent
  unmoved : (b : AgentState) → after ≡ n → NothingMoves a b → Moved n after a b
  unmoved b same q = nothing_moved n after a b (ap (λ (m : NodeState). m.sessions) same) q k

  same_node : (b : AgentState) → after ≡ n → Moved n n a b → Moved n after a b
  same_node b same m = subst (λ (u : NodeState). Moved n u a b) (sym same) m

  once_more : (r : Reply) → after ≡ n → is_again r ≡ true → Moved n after a (after_reply a r)
  once_more r same e = subst (Moved n after a) (sym (again a r e)) (unmoved a same (itself a))

  -- ---- an act
  module _ (c : Act) (is : a.act ≡ Some c) where
    stands_so : ActStands a c
    stands_so = act_stands a c is kept

    done : (ans : ApiAnswer) → ans ≡ answer.Done → Effect a (is_made c) (after_reply a (reply.Api ans))
    done ans e = moves_are_made a (reply.Api ans) (is_made c) kept (is, ap reply.Api e)

    act_refused : (x : ApiRefused) → after ≡ n → Moved n after a (after_reply a (reply.Refused x))
    act_refused x same = by_again (is_again (reply.Refused x)) refl where
      by_again : (b : Bool) → is_again (reply.Refused x) ≡ b → Moved n after a (after_reply a (reply.Refused x))
      by_again true e = once_more (reply.Refused x) same e
      by_again false e =
          same_node (after_reply a (reply.Refused x)) same
          (dropped n a (after_reply a (reply.Refused x)) c built k is stands_so (moves_are_made a (reply.Refused x) (is_dropped c) kept (is, (x, refl), e)))

  -- what a step and an end leave
  stepped : (h : Handle) (value : DataItem) (ans : ApiAnswer) (f : StepFacts n 1 h value ans (after_call n 1 (call.NegotiateStep h value) (Ok ans))) → after ≡ after_call n 1 (call.NegotiateStep h value) (Ok ans)
      → Says n after h f.session n.reading (SayStep value)
  stepped h value ans f same = record {
    there = owned_at n.sessions 1 h f.session f.holds.owned;
    going = f.going;
    mine = f.mine;
    set = ap (λ (m : NodeState). m.sessions.places) (same ∙ f.leads);
    gone = ap (λ (m : NodeState). m.sessions.gone) (same ∙ f.leads);
  }

  ended : (h : Handle) (v : Verdict) (ans : ApiAnswer) (f : EndFacts n 1 h v ans (after_call n 1 (call.EndNegotiate h v) (Ok ans))) → after ≡ after_call n 1 (call.EndNegotiate h v) (Ok ans)
      → Says n after h f.session n.reading (SayEnd v)
  ended h v ans f same = record {
    there = owned_at n.sessions 1 h f.session f.holds.owned;
    going = f.going;
    mine = f.mine;
    set = ap (λ (m : NodeState). m.sessions.places) (same ∙ f.leads);
    gone = ap (λ (m : NodeState). m.sessions.gone) (same ∙ f.leads);
  }

  act_answered : (c : Act) → a.act ≡ Some c → (ans : ApiAnswer) → MayCall n 1 (act_call c) (Ok ans) → after ≡ after_call n 1 (act_call c) (Ok ans) → Moved n after a (after_reply a (reply.Api ans))
  act_answered (act.Offer place h p) is ans may same =
      let f = means.steps n 1 h (prefix_value p) ans sound may in
      made_offer n after a (after_reply a (reply.Api ans)) k kept f.session n.reading place h p is (stands_so (act.Offer place h p) is) (stepped h (prefix_value p) ans f same) (done (act.Offer place h p) is ans f.done)
  act_answered (act.Counter h m) is ans may same =
      let f = means.steps n 1 h (length_value m) ans sound may in
      made_counter n after a (after_reply a (reply.Api ans)) k kept f.session n.reading h m is (stands_so (act.Counter h m) is) (stepped h (length_value m) ans f same) (done (act.Counter h m) is ans f.done)
  act_answered (act.Accept h p) is ans may same =
      let f = means.ends n 1 h verdict.Accept ans sound may in
      made_acceptance n after a (after_reply a (reply.Api ans)) k kept f.session n.reading h p is (stands_so (act.Accept h p) is).0 (ended h verdict.Accept ans f same) (done (act.Accept h p) is ans f.done)
  act_answered (act.Decline h reason) is ans may same =
      let v : Verdict = verdict.Decline (Some (reason_text reason)) in
      let f = means.ends n 1 h v ans sound may in
      made_decline n after a (after_reply a (reply.Api ans)) k kept f.session n.reading h reason v is (stands_so (act.Decline h reason) is) (ended h v ans f same) (done (act.Decline h reason) is ans f.done)

  act_called : (c : Act) → a.act ≡ Some c → (r : Reply) → Calls n 1 (act_call c) r after → Moved n after a (after_reply a r)
  act_called c is (reply.Api ans) t = act_answered c is ans t.0 t.1
  act_called c is (reply.Refused x) t = act_refused c is x t.1
  act_called c is _ t = absurd t

  -- ---- a request

  -- the session that it begins
  module _ (value : DataItem) (loops : ℕ) (peer : Locator) (ans : ApiAnswer) (f : RequestFacts n 1 objective_name value loops 60000 false peer ans (after_call n 1 (call.RequestNegotiate objective_name value loops 60000 false peer) (Ok ans)))
      (same : after ≡ after_call n 1 (call.RequestNegotiate objective_name value loops 60000 false peer) (Ok ans)) where
    abbrev new : SessionState
    new = record {
      number = n.sessions.made + 1;
      owner = 1;
      stream = 2 * n.streams.dialled;
      view = opening Negotiation Near 60000 n.reading (next_session n) (negotiable objective_name f.negotiates.flags value loops false);
    }

    begins : Begins n after f.handle new
    begins = record {
      below = f.starts.place;
      empty = f.starts.empty;
      number = sym f.starts.number;
      owner = refl;
      near = refl;
      kind = λ p e. e;
      set = ap (λ (m : NodeState). m.sessions.places) (same ∙ f.leads);
      gone = ap (λ (m : NodeState). m.sessions.gone) (same ∙ f.leads);
    }

    told_start : started_in (answer_in (reply.Api ans)) ≡ Some f.handle
    told_start = ap (λ (u : ApiAnswer). started_in (Some u)) f.told

  -- that of a want
  asks : (v : Want) → IsRequesting a → (r : Reply) → Calls n 1 (want_call v) r after → Moved n after a (after_reply a r)
  asks v next (reply.Api ans) t =
      let f = means.requests n 1 objective_name (length_value v.length) 6 60000 false v.peer ans sound t.0 in
      let s = begins (length_value v.length) 6 v.peer ans f t.1 in
      started n after a (after_reply a (reply.Api ans)) f.handle (new (length_value v.length) 6 v.peer ans f t.1) k next.idle s (length_plain v.length)
      (moves_are_made a (reply.Api ans) (starts f.handle) kept (next, told_start (length_value v.length) 6 v.peer ans f t.1))
  asks v next (reply.Refused x) t = by_again (is_again (reply.Refused x)) refl where
    by_again : (b : Bool) → is_again (reply.Refused x) ≡ b → Moved n after a (after_reply a (reply.Refused x))
    by_again true e = once_more (reply.Refused x) t.1 e
    by_again false e =
        same_node (after_reply a (reply.Refused x)) t.1
        (refused n a (after_reply a (reply.Refused x)) x k next.idle (moves_are_made a (reply.Refused x) (is_refused x) kept (next, refl, e)))
  asks v next _ t = absurd t

  -- that of a return
  hands_over : (v : Return) → IsReturning a → a.back ≡ Some v → v.session ≡ None → (r : Reply) → Calls n 1 (return_call v) r after → Moved n after a (after_reply a r)
  hands_over v next is none (reply.Api ans) t =
      let f = means.requests n 1 objective_name (return_value v.prefix) 1 60000 false v.peer ans sound t.0 in
      let s = begins (return_value v.prefix) 1 v.peer ans f t.1 in
      let again : returned_in (Some (return_value v.prefix)) ≡ Some v.prefix = return_again v.prefix (kept.pool.valid v.prefix (inl (return_reserved a v is kept))) in
      handed n after a (after_reply a (reply.Api ans)) f.handle (new (return_value v.prefix) 1 v.peer ans f t.1) k next.idle s v is none (record { made = refl; offer = again })
      (moves_are_made a (reply.Api ans) (hands f.handle) kept (next, told_start (return_value v.prefix) 1 v.peer ans f t.1))
  hands_over v next is none (reply.Refused x) t = by_again (is_again (reply.Refused x)) refl where
    by_again : (b : Bool) → is_again (reply.Refused x) ≡ b → Moved n after a (after_reply a (reply.Refused x))
    by_again true e = once_more (reply.Refused x) t.1 e
    by_again false e =
        same_node (after_reply a (reply.Refused x)) t.1
        (unsent n a (after_reply a (reply.Refused x)) x k next.idle v is none (moves_are_made a (reply.Refused x) (is_unsent x) kept (next, refl, e)))
  hands_over v next is none _ t = absurd t

  duty_refused : (d : Duty) → IsNext a d → (x : ApiRefused) → after ≡ n → after_duty a d (reply.Refused x) ≡ a → Moved n after a (after_reply a (reply.Refused x))
  duty_refused d next x same e = by_again (is_again (reply.Refused x)) refl where
    by_again : (b : Bool) → is_again (reply.Refused x) ≡ b → Moved n after a (after_reply a (reply.Refused x))
    by_again true f = once_more (reply.Refused x) same f
    by_again false f = unmoved (after_reply a (reply.Refused x)) same (still a (reply.Refused x) d next f e)

  -- ---- to listen
  module _ (next : IsNext a duty.Listen) where
    comes : (h : Handle) (from : Address) (o : Objective) → Takes n 1 objective_name h from o after → Moved n after a (after_reply a (reply.Api (answer.Incoming h from o)))
    comes h from o t = by_room (lt_tells (length a.giving) 64) where
      r : Reply
      r = reply.Api (answer.Incoming h from o)

      set : after.sessions.places ≡ slice_set n.sessions.places h.place (Some (with_owner t.session 1))
      set = ap (λ (m : NodeState). m.sessions.places) t.leads

      gone : after.sessions.gone ≡ n.sessions.gone
      gone = ap (λ (m : NodeState). m.sessions.gone) t.leads

      is_fresh : IsFresh t.session.view
      is_fresh = fresh h.place t.session t.at t.untaken.owner

      by_room : ((nat_lt (length a.giving) 64 ≡ true) × (length a.giving < 64)) ⊎ ((nat_lt (length a.giving) 64 ≡ false) × (64 ≤ length a.giving))
          → Moved n after a (after_reply a (reply.Api (answer.Incoming h from o)))
      by_room (inl few) =
          let e : Effect a (comes_in h) (after_reply a (reply.Api (answer.Incoming h from o)))
          = moves_are_made a (reply.Api (answer.Incoming h from o)) (comes_in h) kept (inr next, refl, few.1) in
          coming.listed n after a (after_reply a (reply.Api (answer.Incoming h from o))) h t.session k next.idle t.at t.number t.untaken.owner is_fresh set gone e.0 e.1.0 e.2 e.3 e.4
      by_room (inr many) =
          let q = still a (reply.Api (answer.Incoming h from o)) duty.Listen next refl
          (ap (λ b. cond b (record a { giving = a.giving ++ record { handle = h; offer = None; first = true } ∷ [] }) a) many.0) in
          coming.unlisted n after a (after_reply a (reply.Api (answer.Incoming h from o))) h t.session k next.idle t.at t.number t.untaken.owner is_fresh set gone q.pool q.want.0 q.back q.act q.giving

    listen_called : (r : Reply) → Calls n 1 (call.ListenNegotiate objective_name) r after → Moved n after a (after_reply a r)
    listen_called (reply.Api ans) t = by_answer ans (subst (ListenTells n 1 objective_name ans) (sym t.1) (means.listens n 1 objective_name ans t.0).tells) where
      by_answer : (ans : ApiAnswer) → ListenTells n 1 objective_name ans after → Moved n after a (after_reply a (reply.Api ans))
      by_answer (answer.Incoming h from o) l = comes h from o l
      by_answer answer.NotYet l =
          nothing_moved n after a (after_reply a (reply.Api answer.NotYet)) (ap (λ (m : NodeState). m.sessions) l.1)
          (still a (reply.Api answer.NotYet) duty.Listen next refl refl) k
      by_answer u l = absurd l
    listen_called (reply.Refused x) t = duty_refused duty.Listen next x t.1 refl
    listen_called _ t = absurd t

  -- ---- to ask how a session stands

  -- what the poll tells
  abbrev Told : SessionState → ApiAnswer → Type 0
  Told x ans =
      ((o : Outcome) × (outcome_of x.view ≡ Some o) × (ans ≡ answer.Polled (progress.Ended o)))
      ⊎ (((is_going x.view ≡ true) × (is_mine x.view ≡ true) × (ans ≡ answer.Polled (progress.Turn (peer_offer x.view))) × (after ≡ n))
      ⊎ ((ans ≡ answer.Polled progress.NotYet) × (after ≡ n)))

  told : (h : Handle) (ans : ApiAnswer) (f : PollFacts n 1 h ans after) → Told f.session ans
  told h ans f = by_outcome (outcome_of f.session.view) refl where
    by_mine : (b : Bool) → is_mine f.session.view ≡ b → outcome_of f.session.view ≡ None → Told f.session ans
    by_mine true m e = let p = f.turn e m in inr (inl (none_goes_on f.session.view e, m, p.0, p.1))
    by_mine false m e = let p = f.waiting e m in inr (inr (p.0, p.1))

    by_outcome : (o : Option Outcome) → outcome_of f.session.view ≡ o → Told f.session ans
    by_outcome (Some o) e = inl (o, e, (f.ended o e).0)
    by_outcome None e = by_mine (is_mine f.session.view) refl e

  facts : (h : Handle) (ans : ApiAnswer) → MayCall n 1 (call.Poll h) (Ok ans) → after ≡ after_call n 1 (call.Poll h) (Ok ans) → PollFacts n 1 h ans after
  facts h ans may same = subst (PollFacts n 1 h ans) (sym same) (means.polls n 1 h ans may)

  polled_still : (d : Duty) → IsNext a d → (ans : ApiAnswer) (p : Progress) → ans ≡ answer.Polled p → after ≡ n → after_duty a d (reply.Api (answer.Polled p)) ≡ a → Moved n after a (after_reply a (reply.Api ans))
  polled_still d next ans p e same f =
      subst (λ (u : ApiAnswer). Moved n after a (after_reply a (reply.Api u))) (sym e)
      (unmoved (after_reply a (reply.Api (answer.Polled p))) same (still a (reply.Api (answer.Polled p)) d next refl f))

  told_of : (ans : ApiAnswer) (p : Progress) → ans ≡ answer.Polled p → progress_in (answer_in (reply.Api ans)) ≡ Some p
  told_of ans p e = ap (λ (u : ApiAnswer). progress_in (Some u)) e

  -- where the poll is of the session of the agent's want
  module _ (h : Handle) (next : IsNext a (duty.Want h)) (wants : want_session a.want ≡ Some h) where
    want_polled : (ans : ApiAnswer) (f : PollFacts n 1 h ans after) → Told f.session ans → Moved n after a (after_reply a (reply.Api ans))
    want_polled ans f (inl (o, e, is)) =
        subst (λ (u : NodeState). Moved n u a (after_reply a (reply.Api ans))) (sym (f.ended o e).1)
        (finished n a (after_reply a (reply.Api ans)) h f.session k next.idle (want_asked n a h f.session k wants (owned_at n.sessions 1 h f.session f.holds.owned)) o
        (moves_are_made a (reply.Api ans) (finishes h o) kept (next, told_of ans (progress.Ended o) is)))
    want_polled ans f (inr (inl (g, m, is, same))) =
        same_node (after_reply a (reply.Api ans)) same
        (considered n a (after_reply a (reply.Api ans)) h f.session k next.idle wants (owned_at n.sessions 1 h f.session f.holds.owned) (is_deciding f.session.view g m)
        (moves_are_made a (reply.Api ans) (considers h (peer_offer f.session.view)) kept (next, told_of ans (progress.Turn (peer_offer f.session.view)) is)))
    want_polled ans f (inr (inr (is, same))) = polled_still (duty.Want h) next ans progress.NotYet is same (want_still a a.want h).1

    want_called : (r : Reply) → Calls n 1 (call.Poll h) r after → Moved n after a (after_reply a r)
    want_called (reply.Api ans) t = let f = facts h ans t.0 t.1 in want_polled ans f (told h ans f)
    want_called (reply.Refused x) t = duty_refused (duty.Want h) next x t.1 (want_still a a.want h).0
    want_called _ t = absurd t

  -- where the poll is of the session of the agent's return
  module _ (h : Handle) (next : IsNext a (duty.Return h)) (v : Return) (is_back : a.back ≡ Some v) (sent : v.session ≡ Some h) where
    back_polled : (ans : ApiAnswer) (f : PollFacts n 1 h ans after) → Told f.session ans → Moved n after a (after_reply a (reply.Api ans))
    back_polled ans f (inl (o, e, is)) =
        subst (λ (u : NodeState). Moved n u a (after_reply a (reply.Api ans))) (sym (f.ended o e).1)
        (heard n a (after_reply a (reply.Api ans)) h f.session k next.idle v is_back sent (owned_at n.sessions 1 h f.session f.holds.owned) o e
        (moves_are_made a (reply.Api ans) (hears h o) kept (next, told_of ans (progress.Ended o) is)))
    back_polled ans f (inr (inl (g, m, is, same))) = polled_still (duty.Return h) next ans (progress.Turn (peer_offer f.session.view)) is same ((back_still a a.back).2 (peer_offer f.session.view))
    back_polled ans f (inr (inr (is, same))) = polled_still (duty.Return h) next ans progress.NotYet is same (back_still a a.back).1

    back_called : (r : Reply) → Calls n 1 (call.Poll h) r after → Moved n after a (after_reply a r)
    back_called (reply.Api ans) t = let f = facts h ans t.0 t.1 in back_polled ans f (told h ans f)
    back_called (reply.Refused x) t = duty_refused (duty.Return h) next x t.1 (back_still a a.back).0
    back_called _ t = absurd t

  -- where the poll is of the session of a giving entry
  module _ (place : ℕ) (g : Giving) (next : IsNext a (duty.Give place g.handle)) (here : slice_get a.giving place ≡ Some g) where
    entry : PlainEntry n.sessions g
    entry = idle_entry n a place g k next.idle here

    -- what is free where the last offer went back
    pool : IsPool (giving_back a.pool g.offer)
    pool = back_pool a.pool g.offer kept.pool (offer_reserved a place g here kept)

    module _ (ans : ApiAnswer) (f : PollFacts n 1 g.handle ans after) where
      same_session : entry.session ≡ f.session
      same_session = same_own n.sessions g.handle Far entry.session f.session entry.own (owned_at n.sessions 1 g.handle f.session f.holds.owned)

      own : IsOwnSession n.sessions g.handle Far f.session
      own = subst (IsOwnSession n.sessions g.handle Far) same_session entry.own

      offer : OfferStands false g.offer f.session.view
      offer = subst (λ (u : SessionState). OfferStands false g.offer u.view) same_session entry.offer

      is_built : IsBuilt f.session.view
      is_built = built g.handle.place f.session (state_slot n.sessions g.handle f.session own.at)

      -- where the peer's last offer gives back no prefix, its request gives back none
      plain_request : returned_in (peer_offer f.session.view).value ≡ None → returned_in (request_of f.session.view).value ≡ None
      plain_request plain = by_step (has_offered Far (known f.session.view)) refl where
        by_step : (b : Bool) → has_offered Far (known f.session.view) ≡ b → returned_in (request_of f.session.view).value ≡ None
        by_step true e = (subst (λ s. KeepsKind s f.session.view) own.role (own_kind n a g.handle Far f.session k own)) e
        by_step false e = ap (λ (q : Objective). returned_in q.value) (sym (unstepped_hear_none f.session.view is_built own.role e).offer) ∙ plain

      give_turned : ans ≡ answer.Polled (progress.Turn (peer_offer f.session.view)) → IsDeciding f.session.view → Moved n n a (after_reply a (reply.Api ans))
      give_turned is turn =
          let o : Objective = peer_offer f.session.view in
          let r : Reply = reply.Api (answer.Polled (progress.Turn o)) in
          let after_turn : after_reply a r ≡ advanced (after_giver_turn a place g o)
          = at_duty a r (duty.Give place g.handle) refl next ∙ ap (λ x. advanced (after_give_progress a place x (Some (progress.Turn o)))) here in
          let d = giver_decision (giving_back a.pool g.offer) o.value o.loops g.first in
          subst (λ (y : ApiAnswer). Moved n n a (after_reply a (reply.Api y))) (sym is)
          (subst (Moved n n a) (sym after_turn)
          (turned n a (advanced (after_giver_turn a place g o)) place g f.session k is_built next.idle here own turn
          (giving_back a.pool g.offer) (give_act place g.handle d) (deciding g d) (takes_back a.pool g.offer kept.pool (offer_reserved a place g here kept))
          (decided place g (giving_back a.pool g.offer) o.value o.loops g.first pool) plain_request refl refl refl refl))

      give_polled : Told f.session ans → Moved n after a (after_reply a (reply.Api ans))
      give_polled (inl (o, t, is)) =
          subst (λ (u : NodeState). Moved n u a (after_reply a (reply.Api ans))) (sym (f.ended o t).1)
          (gave n a (after_reply a (reply.Api ans)) place g f.session k next.idle here own offer o t
          (moves_are_made a (reply.Api ans) (leaves place g o) kept (next, here, told_of ans (progress.Ended o) is)))
      give_polled (inr (inl (going, m, is, same))) = same_node (after_reply a (reply.Api ans)) same (give_turned is (is_deciding f.session.view going m))
      give_polled (inr (inr (is, same))) = polled_still (duty.Give place g.handle) next ans progress.NotYet is same (giving_still a place (slice_get a.giving place)).1

    give_called : (r : Reply) → Calls n 1 (call.Poll g.handle) r after → Moved n after a (after_reply a r)
    give_called (reply.Api ans) t = let f = facts g.handle ans t.0 t.1 in give_polled ans f (told g.handle ans f)
    give_called (reply.Refused x) t = duty_refused (duty.Give place g.handle) next x t.1 (giving_still a place (slice_get a.giving place)).0
    give_called _ t = absurd t

  -- ---- the call that is next

  -- the return of this session
  of_session : (o : Option Return) → a.back ≡ o → {h : Handle} → back_session o ≡ Some h → (v : Return) × (a.back ≡ Some v) × (v.session ≡ Some h)
  of_session None e f = absurd (cc)
  of_session (Some v) e f = (v, e, f)

  by_next : (c : Call) → NextIs a c → (r : Reply) → Calls n 1 c r after → Moved n after a (after_reply a r)
  by_next _ (opens shut) r t = absurd (false≢true (sym shut ∙ serves))
  by_next _ (acts c serving is) r t = act_called c is r t
  by_next _ (requests w next is none) r t = asks w next r t
  by_next _ (hands_back v next is none) r t = hands_over v next is none r t
  by_next _ (does duty.Listen next is) r t = listen_called next r t
  by_next _ (does (duty.Want h) next is) r t = want_called h next is r t
  by_next _ (does (duty.Return h) next is) r t = let s = of_session a.back refl is in back_called h next s.0 s.1 s.2 r t
  by_next _ (does (duty.Give place h) next is) r t =
      give_called place is.0 (subst (λ x. IsNext a (duty.Give place x)) (sym is.2) next) is.1 r (subst (λ x. Calls n 1 (call.Poll x) r after) (sym is.2) t)

  pub called : (r : Reply) → Calls n 1 (next_call a) r after → Moved n after a (after_reply a r)
  called = by_next (next_call a) (next_calls_are a)
