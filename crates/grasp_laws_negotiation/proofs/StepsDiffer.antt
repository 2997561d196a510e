-- Each step of a node leaves its sessions on different streams.
use Rattle.std.proofs.Common.{◌≡◌, refl, sym, subst, ℕ, None, Result, Ok, Err}
use Rattle.grasp_laws_node.proofs.DatagramsAlone.{datagrams_leave}
use Rattle.grasp_laws_node.proofs.Bounded.Nodes.{begin_kept}
use Rattle.grasp_model_node.specs.Begin.{begin}
use Rattle.grasp_model_node.specs.Draining.{after_drain}
use Rattle.grasp_model_node.specs.FloodCalls.{find_of}
use Rattle.grasp_model_node.specs.Moves.{with_registrations, with_sessions, with_floods, with_draw, begin_closing, dial_record, queue_up}
use Rattle.grasp_model_node.specs.Node.{NodeState}
use Rattle.grasp_model_node.specs.SessionCalls.{begun_by, requested, negotiated, synchronized}
use Rattle.grasp_model_node.specs.BoundedNodes.{IsBoundedNode}
use Rattle.grasp_model_node.specs.Step.{Coming, NodeStep, after_call, Calls, Acts}
use Rattle.grasp_model_node.specs.Streams.{next_stream}
use Rattle.grasp_session.specs.Sessions.{start_reply, after_start}
use Rattle.grasp_session.specs.Transcript.{SayStep, SayWait, SayEnd, SayInvalid}
use Rattle.grasp_session.specs.declared.answer.SessionRefused.{SessionRefused}
use Rattle.grasp_types.specs.declared.address.Locator.{Locator}
use Rattle.grasp_types.specs.declared.call.Call.{Call}
use Rattle.grasp_types.specs.declared.call.Call.TheVariants as calls
use Rattle.grasp_types.specs.declared.objective.Objective.{Objective}
use Rattle.grasp_types.specs.declared.reply.ApiAnswer.{ApiAnswer}
use Rattle.grasp_types.specs.declared.reply.Reply.{Reply}
use Rattle.grasp_types.specs.declared.reply.Reply.TheVariants as reply
use Rattle.grasp_types.specs.declared.session.Handle.{Handle}
use Rattle.grasp_types.specs.declared.session.Kind.{Kind}
use Rattle.grasp_types.specs.declared.session.Kind.TheVariants.{Negotiation, Synchronization}
use Rattle.grasp_types.specs.declared.traffic.Input.{Input}
use Rattle.grasp_types.specs.declared.traffic.Input.TheVariants as input
use Rattle.grasp_laws_node.proofs.SessionChanges as changes
use Rattle.grasp_laws_node_stories.specs.Stories.{IsClear}
use Rattle.grasp_laws_node_stories.specs.StreamMoves.{view_on}
use Rattle.grasp_laws_node_stories.proofs.Beginning as beginning
use Rattle.grasp_laws_node_stories.proofs.Delivering.{HasVoice}
use Rattle.grasp_laws_node_stories.proofs.Requesting.{IsBorn, born_quietly, next_none}
use Rattle.grasp_laws_node_stories.proofs.Nodes.{born}
use Rattle.grasp_laws_node_stories.proofs.Voices.{voices_begin}
use Rattle.grasp_laws_negotiation.specs.Streams.{StreamsDiffer}
use Rattle.grasp_laws_negotiation.proofs.Differing.{Differ, still, pieces_differ, starving_differs}
use Rattle.grasp_laws_negotiation.proofs.Lasting.{Lasts, differ_still, says, starts, unseen_made}
use Rattle.grasp_laws_negotiation.proofs.LastingSteps.{lasting, listens_for, polls_at, stops, deregisters, deregisters_objective}

-- ---- calls

request_differs : (n : NodeState) (asa : ℕ) (kind : Kind) (timeout : ℕ) (o : Objective) (peer : Locator) → view_on n (next_stream n.streams) ≡ None → Differ n → Differ (requested n asa kind timeout o peer)
unfolding with_sessions with_draw dial_record queue_up
request_differs n asa kind timeout o peer none d = by_reply (start_reply n.sessions) refl where
  by_reply : (r : Result Handle SessionRefused) → start_reply n.sessions ≡ r → StreamsDiffer (after_start n.sessions n.reading (begun_by n asa kind timeout o) r)
  by_reply (Ok h) e = starts n.sessions n.reading (begun_by n asa kind timeout o) h e (unseen_made n.sessions (next_stream n.streams) none) d
  by_reply (Err refused) e = d

call_differs : (n : NodeState) (asa : ℕ) (call : Call) (a : ApiAnswer) → view_on n (next_stream n.streams) ≡ None → Differ n → Differ (after_call n asa call (Ok a))
unfolding with_registrations with_sessions with_floods with_draw begin_closing queue_up
call_differs n asa calls.DeregisterAsa a none d = differ_still n.sessions _ (deregisters n asa) d
call_differs n asa (calls.DeregisterObjective name) a none d = differ_still n.sessions _ (deregisters_objective n asa name) d
call_differs n asa (calls.Discover name kind loops timeout) a none d = differ_still n.sessions _ (changes.looks Lasts lasting n asa name kind loops timeout (find_of n asa name kind)) d
call_differs n asa (calls.RequestNegotiate name value loops timeout dry peer) a none d = request_differs n asa Negotiation timeout (negotiated n asa name value loops dry) peer none d
call_differs n asa (calls.ListenNegotiate name) a none d = differ_still n.sessions _ (listens_for n asa name) d
call_differs n asa (calls.StopListenNegotiate name) a none d = differ_still n.sessions _ (stops n asa name) d
call_differs n asa (calls.NegotiateStep h value) a none d = differ_still n.sessions _ (says n.sessions n.reading h (SayStep value)) d
call_differs n asa (calls.NegotiateWait h millis) a none d = differ_still n.sessions _ (says n.sessions n.reading h (SayWait millis)) d
call_differs n asa (calls.EndNegotiate h verdict) a none d = differ_still n.sessions _ (says n.sessions n.reading h (SayEnd verdict)) d
call_differs n asa (calls.SendInvalid h detail) a none d = differ_still n.sessions _ (says n.sessions n.reading h (SayInvalid detail)) d
call_differs n asa (calls.Poll h) a none d = differ_still n.sessions _ (polls_at n h a) d
call_differs n asa (calls.Synchronize name loops timeout peer) a none d = request_differs n asa Synchronization timeout (synchronized n asa name loops) peer none d
call_differs n asa _ a none d = d

calls_differ : (n after : NodeState) (asa : ℕ) (call : Call) (r : Reply) → view_on n (next_stream n.streams) ≡ None → Calls n asa call r after → Differ n → Differ after
calls_differ n after asa call (reply.Api a) none c d = subst Differ (sym c.1) (call_differs n asa call a none d)
calls_differ n after asa call (reply.Refused refused) none c d = subst Differ (sym c.1) d
calls_differ n after asa call _ none c d = absurd c

-- ---- a step

drain_differs : (n : NodeState) (max : ℕ) → Differ n → Differ (after_drain n max)
unfolding after_drain
drain_differs n max d = d

module _ (n after : NodeState) (now : ℕ) (x : Coming) (k : IsBoundedNode n) (c : (stream : ℕ) → IsClear n stream) (d : Differ n) where
  begun : Differ (begin n now)
  begun = still n (begin n now) (changes.begins Lasts lasting n now) d

  born_so : (stream : ℕ) → IsBorn stream (begin n now)
  born_so stream = born_quietly stream n (begin n now) (beginning.begins stream n now k) (born stream n k (c stream))

  voice_so : (stream : ℕ) → HasVoice stream (begin n now)
  voice_so stream = voices_begin stream n now k (c stream).opens

  unborn : view_on (begin n now) (next_stream (begin n now).streams) ≡ None
  unborn = next_none (next_stream (begin n now).streams) (begin n now) refl (born_so (next_stream (begin n now).streams)).born

  pub step_differs : (i : Input) (r : Reply) → NodeStep n now i x r after → Differ after
  step_differs (input.Api asa call) r s = calls_differ (begin n now) after asa call r unborn s.acts begun
  step_differs (input.Datagram link from bytes) r s = subst StreamsDiffer (sym (datagrams_leave n after now link from bytes x r s).sessions) begun
  step_differs (input.Opened stream from) r s = subst Differ (sym s.acts.1) (differ_still (begin n now).sessions _ (changes.opening_comes Lasts lasting (begin n now) stream from r) begun)
  step_differs (input.Bytes stream bytes) r s = by_reply r s.acts where
    by_reply : (q : Reply) → Acts (begin n now) (input.Bytes stream bytes) x q after → Differ after
    by_reply reply.Taken a = subst Differ (sym a) (pieces_differ (begin n now) stream (begin_kept n now k) (born_so stream) (voice_so stream) begun bytes x.added)
    by_reply reply.OutOfMemory a = starving_differs (begin n now) stream (begin_kept n now k) (born_so stream) (voice_so stream) begun after bytes x.added a
    by_reply q a = absurd a
  step_differs (input.Closed stream) r s = subst Differ (sym s.acts.1) (differ_still (begin n now).sessions _ (changes.closing_comes Lasts lasting (begin n now) stream) begun)
  step_differs (input.Drain max) r s = by_reply r s.acts where
    by_reply : (q : Reply) → Acts (begin n now) (input.Drain max) x q after → Differ after
    by_reply (reply.Outputs outputs) a = subst Differ (sym a.1) (drain_differs (begin n now) max begun)
    by_reply reply.OutOfMemory a = subst Differ (sym a.1) begun
    by_reply q a = absurd a
