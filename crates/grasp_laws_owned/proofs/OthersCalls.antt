-- While other agents call the sessions of an agent go on, and each session is whose it may be.
use Rattle.std.proofs.Common.{◌≡◌, ◌≢◌, refl, sym, ◌∙◌, subst, arith, ℕ, zero, suc, ◌<◌, ◌==◌, ◌&&◌, nat_lt, Bool, true, false, cond, List, [], ◌∷◌, ◌++◌, Option, None, Some, Result, Ok, Err, bytes_eq, is_none, ap}
use Rattle.std.proofs.lemmas.Bool.{true≢false, eqb-true, and_parts}
use Rattle.std.proofs.lemmas.Slice.Eq.{bytes_eq-Decides}
use Rattle.grasp_asa.specs.Answers.{names_of}
use Rattle.grasp_model_node.specs.Declines.{Declining, unlistened, declined_for, next_decline, declines_above, declines_of, may_decline, declined, removed, after_decline, after_declines}
use Rattle.grasp_model_node.specs.FloodCalls.{find_of, looked}
use Rattle.grasp_model_node.specs.Moves.{with_registrations, with_sessions, with_discoveries, with_floods, with_draw, begin_closing, dial_record, queue_up}
use Rattle.grasp_model_node.specs.Node.{NodeState}
use Rattle.grasp_model_node.specs.RegistryCalls.{declines_for, without_agent, without_objective, without_searches, close_stream, without_session, without_sessions, with_mark}
use Rattle.grasp_model_node.specs.SessionCalls.{after_polling, with_adopted, begun_by, requested, negotiated, synchronized}
use Rattle.grasp_model_node.specs.BoundedNodes.{IsBoundedNode}
use Rattle.grasp_model_node.specs.Step.{MayCall, after_call, Calls}
use Rattle.grasp_model_node.specs.Refusals.{early}
use Rattle.grasp_model_node.specs.Tests.{not_yours, act_tests, poll_tests, request_tests, synchronize_tests, negotiation_tests}
use Rattle.grasp_discovery.specs.declared.answers.Find.{Find}
use Rattle.grasp_discovery.specs.declared.answers.Find.TheVariants as find
use Rattle.grasp_laws_node.proofs.Bounded.Tests.{number_above}
use Rattle.grasp_laws_session.proofs.Streams.{is_least}
use Rattle.grasp_session.specs.Sessions.{Sessions, session_at, after_say, begun_state, start_reply, after_start, stream_reply, after_remove, untaken_reply, untaken_above_reply, owner_reply}
use Rattle.grasp_session.specs.Transcript.{Saying, SayStep, SayWait, SayEnd, SayInvalid, request_of}
use Rattle.grasp_session.specs.declared.answer.Act.{Act}
use Rattle.grasp_session.specs.declared.answer.Act.TheVariants as act
use Rattle.grasp_session.specs.declared.answer.SessionRefused.{SessionRefused}
use Rattle.grasp_types.specs.declared.address.Locator.{Locator}
use Rattle.grasp_types.specs.declared.call.Call.{Call}
use Rattle.grasp_types.specs.declared.call.Call.TheVariants as call
use Rattle.grasp_types.specs.declared.objective.Objective.{Objective}
use Rattle.grasp_types.specs.declared.reply.ApiAnswer.{ApiAnswer}
use Rattle.grasp_types.specs.declared.reply.ApiAnswer.TheVariants as answer
use Rattle.grasp_types.specs.declared.reply.Reply.{Reply}
use Rattle.grasp_types.specs.declared.reply.Reply.TheVariants as reply
use Rattle.grasp_types.specs.declared.session.Handle.{Handle}
use Rattle.grasp_types.specs.declared.session.Kind.{Kind}
use Rattle.grasp_types.specs.declared.session.Kind.TheVariants.{Negotiation, Synchronization}
use Rattle.grasp_types.specs.declared.session.Progress.TheVariants as progress
use Rattle.grasp_laws_owned.proofs.Owned as owned
use Rattle.grasp_laws_owned.proofs.Owned.{Same}
use Rattle.grasp_laws_owned.specs.Owned.{IsOwnedBy}
use Rattle.grasp_laws_owned.proofs.Registering.{Has, no_other}
use Rattle.grasp_laws_agents.proofs.Tested.{none_of, Owns, owns, acts_in, owner_is}
use Rattle.grasp_session.proofs.Tables.{state_slot}

module _ (me : ℕ) (mine : List ℕ) (least : 0 < me) where
  abbrev SameAt : NodeState → NodeState → Type 0
  SameAt n m = Same me mine n.sessions m.sessions

  -- ---- declines

  -- none is of a session of the agent
  abbrev pub AreOthers : Sessions → List Declining → Type 0
  AreOthers z [] = Unit {0}
  AreOthers z (d ∷ ds) = owned.IsOthersAt me mine least z d.handle.place × AreOthers z ds

  others_both : (z : Sessions) (ds es : List Declining) → AreOthers z ds → AreOthers z es → AreOthers z (ds ++ es)
  others_both z [] es a b = b
  others_both z (d ∷ ds) es a b = (a.0, others_both z ds es a.1 b)

  not_one : (k : ℕ) → k ≡ 0 → k ≢ me
  not_one k e f = omega (arith, e, f, least)

  above_others : (z : Sessions) (name : List ℕ) (k above : ℕ) → AreOthers z (declines_above z name k above)
  unfolding declines_above
  above_others z name zero above = tt
  above_others z name (suc k) above = by_handle (untaken_above_reply z name above) refl (λ number. above_others z name k number) where
    by_handle : (h : Option Handle) → untaken_above_reply z name above ≡ h → ((number : ℕ) → AreOthers z (declines_above z name k number)) → AreOthers z (next_decline z (λ number. declines_above z name k number) h)
    by_handle None f rest = tt
    by_handle (Some h) f rest =
        let l = is_least z (λ x. nat_lt above x.number && (x.owner == 0) && bytes_eq (request_of x.view).name name) h f in
        let p = and_parts (nat_lt above l.state.number && (l.state.owner == 0)) (bytes_eq (request_of l.state.view).name name) l.passes in
        let q = and_parts (nat_lt above l.state.number) (l.state.owner == 0) p.0 in
        rw l.at (owned.others_at me mine least z h.place l.state l.place (not_one l.state.owner (eqb-true l.state.owner 0 q.1)), rest h.number)

  others_for : (z : Sessions) (names : List (List ℕ)) → AreOthers z (declines_for z names)
  others_for z [] = tt
  others_for z (name ∷ names) = others_both z (declines_of z name) (declines_for z names) (above_others z name 64 0) (others_for z names)

  stay_others : (y z : Sessions) (ds : List Declining) → Same me mine y z → AreOthers y ds → AreOthers z ds
  stay_others y z [] s a = tt
  stay_others y z (d ∷ ds) s a = (owned.stays_others me mine least y z d.handle.place s a.0, stay_others y z ds s a.1)

  one_declines : (n : NodeState) (d : Declining) → owned.IsOthersAt me mine least n.sessions d.handle.place → SameAt n (after_decline n d)
  unfolding begin_closing with_sessions queue_up
  one_declines n d e = by_test (may_decline n d.handle) where
    by_test : (b : Bool) → SameAt n (cond b (declined n d) (removed n d.handle))
    by_test true = owned.says me mine least n.sessions n.reading d.handle (SayEnd (declined_for unlistened)) (λ x f. e x (state_slot n.sessions d.handle x f)) (λ x f g. tt)
    by_test false = owned.leaves me mine least n.sessions d.handle (session_at n.sessions d.handle) refl e

  pub declines_same : (n : NodeState) (ds : List Declining) → AreOthers n.sessions ds → SameAt n (after_declines n ds)
  unfolding after_declines
  declines_same n [] a = owned.self me mine least n.sessions
  declines_same n (d ∷ ds) a =
      let s : SameAt n (after_decline n d) = one_declines n d a.0 in
      owned.and_then me mine least n.sessions (after_decline n d).sessions (after_declines (after_decline n d) ds).sessions s
      (declines_same (after_decline n d) ds (stay_others n.sessions (after_decline n d).sessions ds s a.1))

  -- ---- sessions of another agent leave

  closes_same : (n m : NodeState) (o : Option ℕ) → SameAt n m → SameAt n (close_stream m o)
  unfolding begin_closing
  closes_same n m None s = s
  closes_same n m (Some stream) s = s

  one_without : (n : NodeState) (asa : ℕ) (o : Option Handle) → asa ≢ me → owner_reply n.sessions asa ≡ o → SameAt n (without_session n o)
  unfolding with_sessions
  one_without n asa None other e = owned.self me mine least n.sessions
  one_without n asa (Some h) other e =
      let l = is_least n.sessions (λ x. x.owner == asa) h e in
      closes_same n (with_sessions n (after_remove n.sessions h)) (stream_reply n.sessions h)
      (owned.leaves me mine least n.sessions h (session_at n.sessions h) refl (owned.others_at me mine least n.sessions h.place l.state l.place (λ f. other (sym (eqb-true l.state.owner asa l.passes) ∙ f))))

  all_without : (count : ℕ) (n : NodeState) (asa : ℕ) → asa ≢ me → SameAt n (without_sessions count n asa)
  unfolding without_sessions
  all_without zero n asa other = owned.self me mine least n.sessions
  all_without (suc count) n asa other =
      let m : NodeState = without_sessions count n asa in
      owned.and_then me mine least n.sessions m.sessions (without_session m (owner_reply m.sessions asa)).sessions (all_without count n asa other) (one_without m asa (owner_reply m.sessions asa) other refl)

  -- ---- one call

  looks_same : (n : NodeState) (asa : ℕ) (name : List ℕ) (kind : Kind) (loops timeout : ℕ) (f : Find) → SameAt n (looked n asa name kind loops timeout f)
  unfolding with_discoveries with_draw queue_up
  looks_same n asa name kind loops timeout find.Fresh = owned.self me mine least n.sessions
  looks_same n asa name kind loops timeout _ = owned.self me mine least n.sessions

  -- an objective of another agent has another name
  other_name : (n : NodeState) (asa : ℕ) (name : List ℕ) (bits : ℕ) → IsBoundedNode n → Has me mine bits n.registrations → asa ≢ me → not_yours n asa name ≡ false → name ≢ mine
  other_name n asa name bits k h other e f =
      let none : not_yours n asa mine ≡ true = ap is_none (no_other me mine bits n k.registrations h asa other) in
      true≢false (sym none ∙ (ap (not_yours n asa) (sym f) ∙ e))

  module _ (n : NodeState) (asa : ℕ) (is : IsBoundedNode n) (other : asa ≢ me) (bits : ℕ) (h : Has me mine bits n.registrations) where
    begun_clear : (kind : Kind) (timeout number : ℕ) (o : Objective) → 0 < asa → (request_of (begun_state n.reading number (begun_by n asa kind timeout o)).view).name ≢ mine
        → IsOwnedBy me mine (begun_state n.reading number (begun_by n asa kind timeout o))
    begun_clear kind timeout number o above named = record {
      own = λ e. absurd (other e);
      foreign = λ e f. named;
      untaken = λ e. absurd (omega (arith, e, above));
      unsaid = λ e. absurd (omega (arith, e, above));
    }

    requests_same : (kind : Kind) (timeout : ℕ) (o : Objective) (peer : Locator) → 0 < asa
        → ((number : ℕ) → (request_of (begun_state n.reading number (begun_by n asa kind timeout o)).view).name ≢ mine) → SameAt n (requested n asa kind timeout o peer)
    unfolding with_sessions with_draw dial_record queue_up
    requests_same kind timeout o peer above named = by_start (start_reply n.sessions) refl where
      by_start : (r : Result Handle SessionRefused) → start_reply n.sessions ≡ r → Same me mine n.sessions (after_start n.sessions n.reading (begun_by n asa kind timeout o) r)
      by_start (Ok x) e = owned.starts me mine least n.sessions n.reading (begun_by n asa kind timeout o) x e other (begun_clear kind timeout x.number o above (named x.number))
      by_start (Err refused) e = owned.self me mine least n.sessions

    adopts_same : (name : List ℕ) → 0 < asa → name ≢ mine → (o : Option Handle) → untaken_reply n.sessions name ≡ o → SameAt n (with_adopted (with_mark n asa name true) asa o)
    unfolding with_sessions with_registrations
    adopts_same name above named None e = owned.self me mine least n.sessions
    adopts_same name above named (Some x) e =
        let l = is_least n.sessions (λ y. (y.owner == 0) && bytes_eq (request_of y.view).name name) x e in
        let q = and_parts (l.state.owner == 0) (bytes_eq (request_of l.state.view).name name) l.passes in
        let same : (request_of l.state.view).name ≡ name = (bytes_eq-Decides (request_of l.state.view).name name).0 q.1 in
        owned.adopts me mine least n.sessions asa x l.state l.at (not_one l.state.owner (eqb-true l.state.owner 0 q.0)) other
        (λ c. record {
          own = λ f. absurd (other f);
          foreign = λ f g i. named (sym same ∙ i);
          untaken = λ f. absurd (omega (arith, f, above));
          unsaid = λ f. absurd (omega (arith, f, above));
        })

    says_same : (x : Handle) (s : Saying) → 0 < asa → Owns n.sessions asa x → Same me mine n.sessions (after_say n.sessions n.reading x s)
    says_same x s above o = owned.says me mine least n.sessions n.reading x s (λ y e f. other (sym (owner_is n.sessions asa x o y e) ∙ f)) (λ y e f. let own : y.owner ≡ asa = owner_is n.sessions asa x o y e in absurd (omega (arith, own, f, above)))

    acts_same : (x : Handle) (a : Act) (s : Saying) → early (act_tests n asa x a) ≡ Ok tt → Same me mine n.sessions (after_say n.sessions n.reading x s)
    acts_same x a s e = let t = none_of (act_tests n asa x a) e in says_same x s (number_above n asa is t.asa) (acts_in n.sessions asa x a t.session)

    polls_same : (x : Handle) (a : ApiAnswer) → owned.IsOthersAt me mine least n.sessions x.place → SameAt n (after_polling n x (Ok a))
    unfolding with_sessions
    polls_same x (answer.Polled (progress.Ended outcome)) e = owned.leaves me mine least n.sessions x (session_at n.sessions x) refl e
    polls_same x _ e = owned.self me mine least n.sessions

    others_answered : (c : Call) (a : ApiAnswer) → MayCall n asa c (Ok a) → SameAt n (after_call n asa c (Ok a))
    unfolding with_registrations with_sessions with_discoveries with_floods with_draw begin_closing queue_up
    others_answered call.DeregisterAsa a m =
        let p : NodeState = after_declines (without_agent n asa) (declines_for n.sessions (names_of n.registrations asa)) in
        owned.and_then me mine least n.sessions p.sessions (without_sessions 64 (without_searches p asa) asa).sessions
        (declines_same (without_agent n asa) (declines_for n.sessions (names_of n.registrations asa)) (others_for n.sessions (names_of n.registrations asa))) (all_without 64 (without_searches p asa) asa other)
    others_answered (call.DeregisterObjective name) a m = declines_same (without_objective n asa name) (declines_of n.sessions name) (above_others n.sessions name 64 0)
    others_answered (call.Discover name kind loops timeout) a m = looks_same n asa name kind loops timeout (find_of n asa name kind)
    others_answered (call.RequestNegotiate name value loops timeout dry peer) a m =
        let t = none_of (request_tests n asa name dry peer) m.0 in
        requests_same Negotiation timeout (negotiated n asa name value loops dry) peer (number_above n asa is t.asa) (λ number. other_name n asa name bits is h other t.yours)
    others_answered (call.ListenNegotiate name) a m =
        let t = none_of (negotiation_tests n asa name) m.0 in
        adopts_same name (number_above n asa is t.asa) (other_name n asa name bits is h other t.yours) (untaken_reply n.sessions name) refl
    others_answered (call.StopListenNegotiate name) a m = declines_same (with_mark n asa name false) (declines_of n.sessions name) (above_others n.sessions name 64 0)
    others_answered (call.NegotiateStep x value) a m = acts_same x act.Step (SayStep value) m.0
    others_answered (call.NegotiateWait x millis) a m = acts_same x act.Wait (SayWait millis) m.0
    others_answered (call.EndNegotiate x verdict) a m = acts_same x act.End (SayEnd verdict) m.0
    others_answered (call.SendInvalid x detail) a m = acts_same x act.Invalid (SayInvalid detail) m.0
    others_answered (call.Poll x) a m =
        let p = owns n.sessions asa x (none_of (poll_tests n asa x) m.0).session in
        polls_same x a (owned.others_at me mine least n.sessions x.place p.session (state_slot n.sessions x p.session p.at) (λ e. other (sym p.owner ∙ e)))
    others_answered (call.Synchronize name loops timeout peer) a m =
        let t = none_of (synchronize_tests n asa name peer) m.0 in
        requests_same Synchronization timeout (synchronized n asa name loops) peer (number_above n asa is t.asa) (λ number. other_name n asa name bits is h other t.yours)
    others_answered _ a m = owned.self me mine least n.sessions

    pub others_call : (after : NodeState) (c : Call) (r : Reply) → Calls n asa c r after → SameAt n after
    others_call after c (reply.Api a) k = subst (SameAt n) (sym k.1) (others_answered c a k.0)
    others_call after c (reply.Refused refused) k = subst (SameAt n) (sym k.1) (owned.self me mine least n.sessions)
    others_call after c _ k = absurd k
