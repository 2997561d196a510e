-- What each step of a node does to the sessions of an agent that alone has the objective of a name.
use Rattle.std.proofs.Common.{false, ◌≡◌, ◌≢◌, ◌<◌, ◌⊎◌, inl, inr, sym, ◌∙◌, subst, ℕ, true, List, None, Some, Contains, Ok}
use Rattle.grasp_asa.specs.Answers.{names_of, listen_answer}
use Rattle.grasp_laws_agents.proofs.SameRegistered.{declines_registered, withouts_registered, looked_registered, polling_registered, adopted_registered}
use Rattle.grasp_laws_node.proofs.Bounded.Nodes.{nodes_kept, begin_kept}
use Rattle.grasp_laws_node.proofs.DatagramsAlone.{datagrams_leave}
use Rattle.grasp_laws_node.proofs.Remembered.{begun}
use Rattle.grasp_laws_node.proofs.StreamsAlone.{peers_leave}
use Rattle.grasp_laws_node.specs.Means.{PollMeans}
use Rattle.grasp_laws_owned.proofs.Hearing as hearing
use Rattle.grasp_laws_owned.proofs.OthersCalls.{others_call}
use Rattle.grasp_laws_owned.proofs.Own.{own_owned}
use Rattle.grasp_laws_owned.proofs.Owned as owned
use Rattle.grasp_laws_owned.proofs.Owned.{Same}
use Rattle.grasp_laws_owned.proofs.Polled.{called_leaves}
use Rattle.grasp_laws_owned.proofs.Registering as registering
use Rattle.grasp_laws_owned.proofs.Registering.{Has}
use Rattle.grasp_laws_owned.specs.Laws.{OthersLeaveOwners, BeginningsLeaveOwners, OwnersKeepServing, OwnersLeaveByPolls, WasPolled}
use Rattle.grasp_laws_owned.specs.Serving.{IsNoCallOf, IsServing}
use Rattle.grasp_laws_tables.proofs.LawOthers.{others_leave}
use Rattle.grasp_laws_tables.specs.Laws.{IsLeftByOthers}
use Rattle.grasp_model_node.specs.Begin.{begin}
use Rattle.grasp_model_node.specs.BoundedNodes.{IsBoundedNode}
use Rattle.grasp_model_node.specs.Declines.{after_declines, declines_of}
use Rattle.grasp_model_node.specs.Draining.{after_drain}
use Rattle.grasp_model_node.specs.FloodCalls.{find_of}
use Rattle.grasp_model_node.specs.Moves.{with_registrations, with_sessions, with_discoveries, with_floods, with_draw, begin_closing, dial_record, queue_up}
use Rattle.grasp_model_node.specs.Node.{NodeState}
use Rattle.grasp_model_node.specs.RegistryCalls.{declines_for, without_agent, without_objective, without_searches, with_mark}
use Rattle.grasp_model_node.specs.Step.{Coming, NodeStep, Calls, Drains, after_call}
use Rattle.grasp_session.specs.Sessions.{untaken_reply}
use Rattle.grasp_types.specs.declared.call.Call.{Call}
use Rattle.grasp_types.specs.declared.call.Call.TheVariants as call
use Rattle.grasp_types.specs.declared.reply.ApiAnswer.{ApiAnswer}
use Rattle.grasp_types.specs.declared.reply.Reply.{Reply}
use Rattle.grasp_types.specs.declared.reply.Reply.TheVariants as reply
use Rattle.grasp_types.specs.declared.traffic.Input.{Input}
use Rattle.grasp_types.specs.declared.traffic.Input.TheVariants as input

module _ (me : ℕ) (mine : List ℕ) (bits : ℕ) (least : 0 < me) where
  abbrev Holds : NodeState → Type 0
  Holds n = Has me mine bits n.registrations

  -- ---- what is registered stays so

  same_holds : (n m : NodeState) → m.registrations ≡ n.registrations → Holds n → Holds m
  same_holds n m e h = subst (Has me mine bits) (sym e) h

  module _ (n : NodeState) (asa : ℕ) (is : IsBoundedNode n) (other : asa ≢ me) (h : Holds n) where
    left : IsLeftByOthers n.registrations me
    left = others_leave n.registrations me is.registrations h.registered

    registered_others : (c : Call) (a : ApiAnswer) → Holds (after_call n asa c (Ok a))
    unfolding with_registrations with_sessions with_discoveries with_floods with_draw begin_closing dial_record queue_up
    registered_others (call.RegisterAsa name) a = registering.as_before me mine bits n.registrations _ (left.register_asa name) h
    registered_others call.DeregisterAsa a =
        subst (Has me mine bits)
        (sym (withouts_registered 64 (without_searches (after_declines (without_agent n asa) (declines_for n.sessions (names_of n.registrations asa))) asa) asa
        ∙ declines_registered (without_agent n asa) (declines_for n.sessions (names_of n.registrations asa))))
        (registering.as_before me mine bits n.registrations _ (left.deregister_asa asa other) h)
    registered_others (call.RegisterObjective name flags) a = registering.as_before me mine bits n.registrations _ (left.register_objective asa name flags other) h
    registered_others (call.DeregisterObjective name) a =
        subst (Has me mine bits) (sym (declines_registered (without_objective n asa name) (declines_of n.sessions name))) (registering.as_before me mine bits n.registrations _ (left.deregister_objective asa name other) h)
    registered_others (call.Discover name kind loops timeout) a = subst (Has me mine bits) (sym (looked_registered n asa name kind loops timeout (find_of n asa name kind))) h
    registered_others (call.ListenNegotiate name) a =
        subst (Has me mine bits) (sym (adopted_registered (with_mark n asa name true) asa (untaken_reply n.sessions name))) (registering.as_before me mine bits n.registrations _ (left.listen asa name true other) h)
    registered_others (call.StopListenNegotiate name) a =
        subst (Has me mine bits) (sym (declines_registered (with_mark n asa name false) (declines_of n.sessions name))) (registering.as_before me mine bits n.registrations _ (left.listen asa name false other) h)
    registered_others (call.Poll handle) a = subst (Has me mine bits) (sym (polling_registered n handle a)) h
    registered_others (call.ListenSynchronize name value) a = registering.as_before me mine bits n.registrations _ (left.offer asa name (Some value) other) h
    registered_others (call.StopListenSynchronize name) a = registering.as_before me mine bits n.registrations _ (left.offer asa name None other) h
    registered_others _ a = h

    calls_others : (after : NodeState) (c : Call) (r : Reply) → Calls n asa c r after → Holds after
    calls_others after c (reply.Api a) s = subst Holds (sym s.1) (registered_others c a)
    calls_others after c (reply.Refused refused) s = subst Holds (sym s.1) h
    calls_others after c _ s = absurd s

  begin_holds : (n : NodeState) (now : ℕ) → Holds n → Holds (begin n now)
  begin_holds n now h = same_holds n (begin n now) (begun n now).registrations h

  drain_holds : (n after : NodeState) (max : ℕ) (r : Reply) → Holds n → Drains n max r after → Holds after
  unfolding after_drain
  drain_holds n after max (reply.Outputs outputs) h d = subst Holds (sym d.1) h
  drain_holds n after max reply.OutOfMemory h d = subst Holds (sym d.1) h
  drain_holds n after max _ h d = absurd d

  others_hold : (n after : NodeState) (now : ℕ) (i : Input) (x : Coming) (r : Reply) → IsBoundedNode n → Holds n → IsNoCallOf me i → NodeStep n now i x r after → Holds after
  others_hold n after now (input.Api asa c) x r is h o step = calls_others (begin n now) asa (begin_kept n now is) o (begin_holds n now h) after c r step.acts
  others_hold n after now (input.Datagram link from bytes) x r is h o step = same_holds (begin n now) after (datagrams_leave n after now link from bytes x r step).registrations (begin_holds n now h)
  others_hold n after now (input.Opened stream from) x r is h o step = same_holds (begin n now) after ((peers_leave n after now stream x r).0 from step).registrations (begin_holds n now h)
  others_hold n after now (input.Bytes stream bytes) x r is h o step = same_holds (begin n now) after ((peers_leave n after now stream x r).1 bytes step).registrations (begin_holds n now h)
  others_hold n after now (input.Closed stream) x r is h o step = same_holds (begin n now) after ((peers_leave n after now stream x r).2 step).registrations (begin_holds n now h)
  others_hold n after now (input.Drain max) x r is h o step = drain_holds (begin n now) after max r (begin_holds n now h) step.acts

  own_registered : (n : NodeState) (asa : ℕ) (c : Call) (a : ApiAnswer) → IsServing mine c → Holds n → Holds (after_call n asa c (Ok a))
  unfolding with_registrations with_sessions with_draw begin_closing dial_record queue_up
  own_registered n asa (call.RequestNegotiate name value loops timeout dry peer) a s h = h
  own_registered n asa (call.ListenNegotiate name) a s h =
      subst (Has me mine bits) (sym (adopted_registered (with_mark n asa name true) asa (untaken_reply n.sessions name)))
      (subst (λ name. Has me mine bits (with_mark n asa name true).registrations) (sym s) (registering.listened_again me mine bits n.registrations (listen_answer n.registrations asa mine) h))
  own_registered n asa (call.NegotiateStep handle value) a s h = h
  own_registered n asa (call.EndNegotiate handle verdict) a s h = h
  own_registered n asa (call.Poll handle) a s h = subst (Has me mine bits) (sym (polling_registered n handle a)) h
  own_registered n asa _ a s h = absurd s

  own_calls : (n after : NodeState) (asa : ℕ) (c : Call) (r : Reply) → IsServing mine c → Holds n → Calls n asa c r after → Holds after
  own_calls n after asa c (reply.Api a) s h k = subst Holds (sym k.1) (own_registered n asa c a s h)
  own_calls n after asa c (reply.Refused refused) s h k = subst Holds (sym k.1) h
  own_calls n after asa c _ s h k = absurd k

  -- ---- whatever comes but a call of the agent

  abbrev SameAt : NodeState → NodeState → Type 0
  SameAt n m = Same me mine n.sessions m.sessions

  drains_same : (n after : NodeState) (max : ℕ) (r : Reply) → Drains n max r after → SameAt n after
  unfolding after_drain
  drains_same n after max (reply.Outputs outputs) d = subst (SameAt n) (sym d.1) (owned.self me mine least n.sessions)
  drains_same n after max reply.OutOfMemory d = subst (SameAt n) (sym d.1) (owned.self me mine least n.sessions)
  drains_same n after max _ d = absurd d

  others_same : (n after : NodeState) (now : ℕ) (i : Input) (x : Coming) (r : Reply) → IsBoundedNode n → Holds n → IsNoCallOf me i → NodeStep n now i x r after → SameAt n after
  others_same n after now i x r is h o step = owned.and_then me mine least n.sessions (begin n now).sessions after.sessions (hearing.begins me mine least n now) (by_input i o step) where
    by_input : (i : Input) → IsNoCallOf me i → NodeStep n now i x r after → SameAt (begin n now) after
    by_input (input.Api asa c) o t = others_call me mine least (begin n now) asa (begin_kept n now is) o bits (begin_holds n now h) after c r t.acts
    by_input (input.Datagram link from bytes) o t = subst (Same me mine (begin n now).sessions) (sym (datagrams_leave n after now link from bytes x r t).sessions) (owned.self me mine least (begin n now).sessions)
    by_input (input.Opened stream from) o t = subst (SameAt (begin n now)) (sym t.acts.1) (hearing.opening_comes me mine least (begin n now) stream from r)
    by_input (input.Bytes stream bytes) o t = hearing.bytes_come me mine least (begin n now) after stream bytes x r t.acts
    by_input (input.Closed stream) o t = subst (SameAt (begin n now)) (sym t.acts.1) (hearing.closing_comes me mine least (begin n now) stream)
    by_input (input.Drain max) o t = drains_same (begin n now) after max r t.acts

-- ---- the laws

pub others_leave_owners : OthersLeaveOwners
others_leave_owners asa name bits n after now i x r least is serves other step =
    let held = registering.has asa name bits n is.registrations serves in
    let kept : IsBoundedNode after = nodes_kept.1 n after now i x r is step in
    let same = others_same asa name bits least n after now i x r is held other step in record {
      serves = registering.serves asa name bits after kept.registrations (others_hold asa name bits least n after now i x r is held other step);
      owned = same.clear;
      go_on = same.goes_on;
    }

pub beginnings_leave_owners : BeginningsLeaveOwners
beginnings_leave_owners asa name n now least = let same = hearing.begins asa name least n now in (same.goes_on, same.clear)

pub owners_keep_serving : OwnersKeepServing
owners_keep_serving asa name bits n after now c x r least is serves calls step =
    let held = registering.has asa name bits n is.registrations serves in
    let kept : IsBoundedNode after = nodes_kept.1 n after now (input.Api asa c) x r is step in record {
      serves = registering.serves asa name bits after kept.registrations (own_calls asa name bits least (begin n now) after asa c r calls (begin_holds asa name bits least n now held) step.acts);
      owned = λ k. own_owned asa name least (begin n now) ((hearing.begins asa name least n now).clear k) after c r calls step.acts;
    }

pub owners_leave_by_polls : PollMeans → OwnersLeaveByPolls
owners_leave_by_polls means asa name n after now c x r least is calls step y own has = by_begun (called_leaves means asa name least (begin n now) after c r calls step.acts y own has) where
  by_begun : Contains (begin n now).sessions.gone y ⊎ WasPolled (begin n now) c r y → Contains n.sessions.gone y ⊎ WasPolled (begin n now) c r y
  by_begun (inl i) = inl ((hearing.begins asa name least n now).goes_on.left y own i)
  by_begun (inr p) = inr p
