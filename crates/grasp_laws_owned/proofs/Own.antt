-- The calls of an agent for its own objective leave each session whose it may be.
use Rattle.std.proofs.Common.{true, ◌≡◌, ◌<◌, refl, sym, subst, arith, ℕ, ◌==◌, ◌&&◌, List, Option, None, Some, Result, Ok, Err, bytes_eq}
use Rattle.std.proofs.lemmas.Bool.{eqb-true, and_parts}
use Rattle.std.proofs.lemmas.Slice.Eq.{bytes_eq-Decides}
use Rattle.grasp_laws_agents.proofs.Tested.{none_of, acts_in, owner_is}
use Rattle.grasp_laws_owned.proofs.Owned as owned
use Rattle.grasp_laws_owned.specs.Owned.{IsOwnedBy, AreOwnedBy}
use Rattle.grasp_laws_owned.specs.Serving.{IsServing}
use Rattle.grasp_laws_session.proofs.Streams.{is_least}
use Rattle.grasp_model_node.specs.Moves.{with_registrations, with_sessions, with_draw, begin_closing, dial_record, queue_up}
use Rattle.grasp_model_node.specs.Node.{NodeState}
use Rattle.grasp_model_node.specs.Refusals.{early}
use Rattle.grasp_model_node.specs.RegistryCalls.{with_mark}
use Rattle.grasp_model_node.specs.SessionCalls.{after_polling, with_adopted, begun_by, requested, negotiated}
use Rattle.grasp_model_node.specs.Step.{MayCall, Calls, after_call}
use Rattle.grasp_model_node.specs.Tests.{act_tests}
use Rattle.grasp_session.specs.Sessions.{SessionState, with_owner, session_at, begun_state, start_reply, after_start, after_say, untaken_reply, after_adopt}
use Rattle.grasp_session.specs.Transcript.{Saying, SayStep, SayEnd, request_of}
use Rattle.grasp_session.specs.declared.answer.Act.{Act}
use Rattle.grasp_session.specs.declared.answer.Act.TheVariants as act
use Rattle.grasp_session.specs.declared.answer.SessionRefused.{SessionRefused}
use Rattle.grasp_types.specs.declared.address.Locator.{Locator}
use Rattle.grasp_types.specs.declared.call.Call.{Call}
use Rattle.grasp_types.specs.declared.call.Call.TheVariants as call
use Rattle.grasp_types.specs.declared.objective.Objective.{Objective}
use Rattle.grasp_types.specs.declared.reply.ApiAnswer.{ApiAnswer}
use Rattle.grasp_types.specs.declared.reply.ApiAnswer.TheVariants as answer
use Rattle.grasp_types.specs.declared.reply.Reply.{Reply}
use Rattle.grasp_types.specs.declared.reply.Reply.TheVariants as reply
use Rattle.grasp_types.specs.declared.session.Handle.{Handle}
use Rattle.grasp_types.specs.declared.session.Kind.TheVariants.{Negotiation}
use Rattle.grasp_types.specs.declared.session.Progress.TheVariants as progress

module _ (me : ℕ) (mine : List ℕ) (least : 0 < me) (n : NodeState) (k : AreOwnedBy me mine n.sessions) where
  polls_clear : (h : Handle) (a : ApiAnswer) → AreOwnedBy me mine (after_polling n h (Ok a)).sessions
  unfolding with_sessions
  polls_clear h (answer.Polled (progress.Ended outcome)) = owned.leaves_clear me mine least n.sessions h (session_at n.sessions h) refl k
  polls_clear h _ = k

  begun_own : (timeout number : ℕ) (o : Objective) → o.name ≡ mine → IsOwnedBy me mine (begun_state n.reading number (begun_by n me Negotiation timeout o))
  begun_own timeout number o e = record { own = λ f. (refl, e); foreign = λ f g. absurd (g refl); untaken = λ f. refl; unsaid = λ f. absurd (omega (arith, f, least)) }

  requests_clear : (timeout : ℕ) (o : Objective) (peer : Locator) → o.name ≡ mine → AreOwnedBy me mine (requested n me Negotiation timeout o peer).sessions
  unfolding with_sessions with_draw dial_record queue_up
  requests_clear timeout o peer e = by_start (start_reply n.sessions) where
    by_start : (r : Result Handle SessionRefused) → AreOwnedBy me mine (after_start n.sessions n.reading (begun_by n me Negotiation timeout o) r)
    by_start (Ok h) =
        let x : SessionState = begun_state n.reading h.number (begun_by n me Negotiation timeout o) in
        owned.set_clear me mine least n.sessions h.number h.place n.sessions.gone (Some x) (λ y f. owned.one_clear me mine least x y (begun_own timeout h.number o e) f) (owned.gone_owned me mine least n.sessions k) k
    by_start (Err refused) = k

  taken_clear : (h : Handle) (x : SessionState) → session_at n.sessions h ≡ Some x → x.owner ≡ 0 → (request_of x.view).name ≡ mine → AreOwnedBy me mine (after_adopt n.sessions me h)
  taken_clear h x e free named =
      rw e
      (owned.set_clear me mine least n.sessions n.sessions.made h.place n.sessions.gone (Some (with_owner x me))
      (λ y f.
      owned.one_clear me mine least (with_owner x me) y
      (record {
        own = λ i. ((owned.live_owned me mine least n.sessions h x e k).untaken free, named);
        foreign = λ i j. absurd (j refl);
        untaken = λ i. absurd (omega (arith, i, least));
        unsaid = λ i. absurd (omega (arith, i, least));
      }) f) (owned.gone_owned me mine least n.sessions k) k)

  adopts_clear : (o : Option Handle) → untaken_reply n.sessions mine ≡ o → AreOwnedBy me mine (with_adopted (with_mark n me mine true) me o).sessions
  unfolding with_sessions with_registrations
  adopts_clear None e = k
  adopts_clear (Some h) e =
      let l = is_least n.sessions (λ y. (y.owner == 0) && bytes_eq (request_of y.view).name mine) h e in
      let q = and_parts (l.state.owner == 0) (bytes_eq (request_of l.state.view).name mine) l.passes in
      taken_clear h l.state l.at (eqb-true l.state.owner 0 q.0) ((bytes_eq-Decides (request_of l.state.view).name mine).0 q.1)

  -- what the agent says is in a session of its own
  said_clear : (h : Handle) (d : Act) (saying : Saying) → early (act_tests n me h d) ≡ Ok tt → AreOwnedBy me mine (after_say n.sessions n.reading h saying)
  said_clear h d saying e =
      let o = acts_in n.sessions me h d (none_of (act_tests n me h d) e).session in
      owned.says_clear me mine least n.sessions n.reading h saying (λ x f g. let own : x.owner ≡ me = owner_is n.sessions me h o x f in absurd (omega (arith, own, g, least))) k

  own_answered : (c : Call) (a : ApiAnswer) → IsServing mine c → MayCall n me c (Ok a) → AreOwnedBy me mine (after_call n me c (Ok a)).sessions
  unfolding with_sessions begin_closing queue_up
  own_answered (call.RequestNegotiate name value loops timeout dry peer) a s m = requests_clear timeout (negotiated n me name value loops dry) peer s
  own_answered (call.ListenNegotiate name) a s m =
      subst (λ name. AreOwnedBy me mine (with_adopted (with_mark n me name true) me (untaken_reply n.sessions name)).sessions) (sym s) (adopts_clear (untaken_reply n.sessions mine) refl)
  own_answered (call.NegotiateStep h value) a s m = said_clear h act.Step (SayStep value) m.0
  own_answered (call.EndNegotiate h verdict) a s m = said_clear h act.End (SayEnd verdict) m.0
  own_answered (call.Poll h) a s m = polls_clear h a
  own_answered _ a s m = absurd s

  pub own_owned : (after : NodeState) (c : Call) (r : Reply) → IsServing mine c → Calls n me c r after → AreOwnedBy me mine after.sessions
  own_owned after c (reply.Api a) s t = subst (λ (m : NodeState). AreOwnedBy me mine m.sessions) (sym t.1) (own_answered c a s t.0)
  own_owned after c (reply.Refused refused) s t = subst (λ (m : NodeState). AreOwnedBy me mine m.sessions) (sym t.1) k
  own_owned after c _ s t = absurd t
