-- A session of an agent is no longer live after a call for its own objective only where it was so before, or the call told its outcome.
use Rattle.std.proofs.Common.{◌≡◌, ◌<◌, ◌⊎◌, inl, inr, refl, sym, ap, ◌∙◌, subst, arith, ℕ, ◌==◌, not, Bool, true, false, cond, List, Option, None, Some, Contains, Result, Ok, Err}
use Rattle.std.proofs.lemmas.Bool.{and_parts, eqb-true}
use Rattle.grasp_laws_node.specs.Means.{PollMeans, PollFacts}
use Rattle.grasp_laws_owned.proofs.Owned.{gone_cases}
use Rattle.grasp_laws_owned.specs.Laws.{WasPolled}
use Rattle.grasp_laws_owned.specs.Serving.{IsServing}
use Rattle.grasp_laws_agents.proofs.Places.{owned_at}
use Rattle.grasp_model_node.specs.Moves.{with_registrations, with_sessions, with_draw, begin_closing, dial_record, queue_up}
use Rattle.grasp_model_node.specs.Node.{NodeState}
use Rattle.grasp_model_node.specs.RegistryCalls.{with_mark}
use Rattle.grasp_model_node.specs.SessionCalls.{after_polling, with_adopted, begun_by, requested, negotiated}
use Rattle.grasp_model_node.specs.Step.{MayCall, Calls, after_call}
use Rattle.grasp_session.specs.Sessions.{SessionState, Sessions, changed, is_leaving, left, with_place, with_transcript, session_at, start_reply, after_start, after_say, untaken_reply, after_adopt}
use Rattle.grasp_session.specs.Transcript.{Saying, SayStep, SayEnd, having_said, is_going, is_mine, outcome_of}
use Rattle.grasp_session.specs.declared.answer.SessionRefused.{SessionRefused}
use Rattle.grasp_types.specs.declared.address.Locator.{Locator}
use Rattle.grasp_types.specs.declared.call.Call.{Call}
use Rattle.grasp_types.specs.declared.call.Call.TheVariants as call
use Rattle.grasp_types.specs.declared.objective.Objective.{Objective}
use Rattle.grasp_types.specs.declared.reply.ApiAnswer.{ApiAnswer}
use Rattle.grasp_types.specs.declared.reply.Reply.{Reply}
use Rattle.grasp_types.specs.declared.reply.Reply.TheVariants as reply
use Rattle.grasp_types.specs.declared.session.Handle.{Handle}
use Rattle.grasp_types.specs.declared.session.Kind.TheVariants.{Negotiation}
use Rattle.grasp_types.specs.declared.session.Outcome.{Outcome}

module _ (means : PollMeans) (me : ℕ) (mine : List ℕ) (least : 0 < me) (n : NodeState) where
  -- what is no longer live then and wasn't before
  abbrev Leaves : Call → Reply → Sessions → Type 0
  Leaves c r z = (y : SessionState) → y.owner ≡ me → Contains z.gone y → Contains n.sessions.gone y ⊎ WasPolled n c r y

  still : (c : Call) (r : Reply) (z : Sessions) → z.gone ≡ n.sessions.gone → Leaves c r z
  still c r z e y own has = inl (subst (λ (l : List SessionState). Contains l y) e has)

  started_gone : (timeout : ℕ) (o : Objective) (peer : Locator) → (requested n me Negotiation timeout o peer).sessions.gone ≡ n.sessions.gone
  unfolding with_sessions with_draw dial_record queue_up
  started_gone timeout o peer = by_start (start_reply n.sessions) where
    by_start : (r : Result Handle SessionRefused) → (after_start n.sessions n.reading (begun_by n me Negotiation timeout o) r).gone ≡ n.sessions.gone
    by_start (Ok h) = refl
    by_start (Err refused) = refl

  adopted_gone : (name : List ℕ) (o : Option Handle) → (with_adopted (with_mark n me name true) me o).sessions.gone ≡ n.sessions.gone
  unfolding with_sessions with_registrations
  adopted_gone name None = refl
  adopted_gone name (Some h) = by_state (session_at n.sessions h) refl where
    by_state : (o : Option SessionState) → session_at n.sessions h ≡ o → (after_adopt n.sessions me h).gone ≡ n.sessions.gone
    by_state None e = rw e refl
    by_state (Some x) e = rw e refl

  -- what is said leaves only a session that no agent had taken
  left_leaves : (c : Call) (r : Reply) (x y : SessionState) → is_leaving x ≡ true → y.owner ≡ me → (x ≡ y) ⊎ Contains n.sessions.gone y → Contains n.sessions.gone y ⊎ WasPolled n c r y
  left_leaves c r x y e own (inl same) =
      let free : x.owner ≡ 0 = eqb-true x.owner 0 (and_parts (x.owner == 0) (not (is_going x.view)) e).0 in
      let taken : x.owner ≡ me = ap (λ (u : SessionState). u.owner) same ∙ own in
      absurd (omega (arith, free, taken, least))
  left_leaves c r x y e own (inr i) = inl i

  changed_leaves : (c : Call) (r : Reply) (h : Handle) (x : SessionState) → Leaves c r (changed n.sessions h x)
  changed_leaves c r h x = by_test (is_leaving x) refl where
    by_test : (b : Bool) → is_leaving x ≡ b → Leaves c r (cond b (left n.sessions h x) (with_place n.sessions h.place (Some x)))
    by_test true e = λ y own has. left_leaves c r x y e own (gone_cases x y n.sessions.gone has)
    by_test false e = still c r (with_place n.sessions h.place (Some x)) refl

  said_leaves : (c : Call) (r : Reply) (h : Handle) (saying : Saying) → Leaves c r (after_say n.sessions n.reading h saying)
  said_leaves c r h saying = by_state (session_at n.sessions h) refl where
    by_state : (o : Option SessionState) → session_at n.sessions h ≡ o → Leaves c r (after_say n.sessions n.reading h saying)
    by_state None e = rw e (still c r n.sessions refl)
    by_state (Some x) e = rw e (changed_leaves c r h (with_transcript x (having_said x.view n.reading saying)))

  module _ (h : Handle) (a : ApiAnswer) (f : PollFacts n me h a (after_polling n h (Ok a))) where
    ended_leaves : (o : Outcome) → outcome_of f.session.view ≡ Some o → (y : SessionState) → (f.session ≡ y) ⊎ Contains n.sessions.gone y
        → Contains n.sessions.gone y ⊎ WasPolled n (call.Poll h) (reply.Api a) y
    ended_leaves o e y (inl same) =
        inr
        (record {
          handle = h;
          outcome = o;
          at = owned_at n.sessions me h f.session f.holds.owned ∙ ap (λ (u : SessionState). Some u) same;
          ended = sym (ap (λ (u : SessionState). outcome_of u.view) same) ∙ e;
          polls = refl;
          tells = ap reply.Api (f.ended o e).0;
        })
    ended_leaves o e y (inr i) = inl i

    by_mine : (b : Bool) → is_mine f.session.view ≡ b → outcome_of f.session.view ≡ None → Leaves (call.Poll h) (reply.Api a) (after_polling n h (Ok a)).sessions
    by_mine true m e = still (call.Poll h) (reply.Api a) (after_polling n h (Ok a)).sessions (ap (λ (u : NodeState). u.sessions.gone) (f.turn e m).1)
    by_mine false m e = still (call.Poll h) (reply.Api a) (after_polling n h (Ok a)).sessions (ap (λ (u : NodeState). u.sessions.gone) (f.waiting e m).1)

    by_outcome : (o : Option Outcome) → outcome_of f.session.view ≡ o → Leaves (call.Poll h) (reply.Api a) (after_polling n h (Ok a)).sessions
    by_outcome None e = by_mine (is_mine f.session.view) refl e
    by_outcome (Some o) e = λ y own has. ended_leaves o e y (gone_cases f.session y n.sessions.gone (subst (λ (u : NodeState). Contains u.sessions.gone y) (f.ended o e).1 has))

    polled_leaves : Leaves (call.Poll h) (reply.Api a) (after_polling n h (Ok a)).sessions
    polled_leaves = by_outcome (outcome_of f.session.view) refl

  answered_leaves : (c : Call) (a : ApiAnswer) → IsServing mine c → MayCall n me c (Ok a) → Leaves c (reply.Api a) (after_call n me c (Ok a)).sessions
  unfolding with_sessions begin_closing queue_up
  answered_leaves (call.RequestNegotiate name value loops timeout dry peer) a s m =
      still (call.RequestNegotiate name value loops timeout dry peer) (reply.Api a) (requested n me Negotiation timeout (negotiated n me name value loops dry) peer).sessions (started_gone timeout (negotiated n me name value loops dry) peer)
  answered_leaves (call.ListenNegotiate name) a s m =
      still (call.ListenNegotiate name) (reply.Api a) (with_adopted (with_mark n me name true) me (untaken_reply n.sessions name)).sessions (adopted_gone name (untaken_reply n.sessions name))
  answered_leaves (call.NegotiateStep h value) a s m = said_leaves (call.NegotiateStep h value) (reply.Api a) h (SayStep value)
  answered_leaves (call.EndNegotiate h verdict) a s m = said_leaves (call.EndNegotiate h verdict) (reply.Api a) h (SayEnd verdict)
  answered_leaves (call.Poll h) a s m = polled_leaves h a (means n me h a m)
  answered_leaves _ a s m = absurd s

  pub called_leaves : (after : NodeState) (c : Call) (r : Reply) → IsServing mine c → Calls n me c r after → Leaves c r after.sessions
  called_leaves after c (reply.Api a) s t = subst (λ (m : NodeState). Leaves c (reply.Api a) m.sessions) (sym t.1) (answered_leaves c a s t.0)
  called_leaves after c (reply.Refused refused) s t = subst (λ (m : NodeState). Leaves c (reply.Refused refused) m.sessions) (sym t.1) (still c (reply.Refused refused) n.sessions refl)
  called_leaves after c _ s t = absurd t
