-- A step says acceptances where it is a call that accepts and is done, and the session of such a call stays on its stream.
use Rattle.std.proofs.Common.{◌≡◌, ℕ, Bool, true, false, cond, List, [], ◌++◌, ◌⊎◌, inl, inr, length, drop, Option, None, Some, slice_index_or, option_to_list, refl, sym, ap, ◌∙◌}
use Rattle.std.proofs.lemmas.List.{append-nil, append_cancel_left, get_or-set_same}
use Rattle.grasp_laws_node.proofs.Beginning.{beginnings_end, sessions_time_out}
use Rattle.grasp_laws_node.proofs.Bounded.Nodes.{begin_kept}
use Rattle.grasp_laws_node.proofs.DialNodes.{dials_counted}
use Rattle.grasp_laws_node.proofs.Meaning.Acts.{end_means_lem, number_at, owned_at}
use Rattle.grasp_laws_node.proofs.Remembered.{relays_once}
use Rattle.grasp_laws_node.specs.Beginnings.{IsDue, timed_out}
use Rattle.grasp_laws_node.specs.Dials.{IsNoDrain}
use Rattle.grasp_laws_node.specs.Relays.{DrainQueues}
use Rattle.grasp_laws_session.proofs.Runs.{at_below, some_state}
use Rattle.grasp_session.proofs.Facts.{at_handle}
use Rattle.grasp_session.proofs.Tables.{state_slot}
use Rattle.grasp_session.specs.Says.{IsAt}
use Rattle.grasp_session.specs.Sessions.{Sessions, SessionState, session_at, stream_of, stream_reply, with_place, with_transcript, is_leaving}
use Rattle.grasp_session.specs.Transcript.{Expired, SayEnd, having_said, with_mark}
use Rattle.grasp_types.specs.declared.call.Call.{Call}
use Rattle.grasp_types.specs.declared.call.Call.TheVariants as calls
use Rattle.grasp_types.specs.declared.message.Verdict.TheVariants.{Accept}
use Rattle.grasp_types.specs.declared.reply.ApiAnswer.TheVariants as answers
use Rattle.grasp_types.specs.declared.reply.Reply.{Reply}
use Rattle.grasp_types.specs.declared.reply.Reply.TheVariants as reply
use Rattle.grasp_types.specs.declared.session.Handle.{Handle}
use Rattle.grasp_types.specs.declared.traffic.Input.{Input}
use Rattle.grasp_types.specs.declared.traffic.Input.TheVariants as input
use Rattle.grasp_model_node.specs.Begin.{begin}
use Rattle.grasp_model_node.specs.BoundedNodes.{IsBoundedNode}
use Rattle.grasp_model_node.specs.Node.{NodeState}
use Rattle.grasp_model_node.specs.Queue.{Queued}
use Rattle.grasp_model_node.specs.Step.{Coming, NodeStep, Calls}
use Rattle.grasp_model_node.specs.Streams.{past_of}
use Rattle.grasp_laws_node_stories.specs.Acceptances.{accepted_on, accepts_on, was_done, acceptances_of, AcceptancesAreCalls, StaysOn, EndedSessionsStay}
use Rattle.grasp_laws_node_stories.specs.Stories.{gained}
use Rattle.grasp_laws_node_stories.proofs.Accepting.{IsPeers, accepted_both, peers_say, call_says}
use Rattle.grasp_laws_node_stories.proofs.Nodes.{dropped}

-- ---- the session that an agent ends

-- a session that is live where a step has begun was live before, on the same stream
module _ (n : NodeState) (now : ℕ) (h : Handle) (y : SessionState) (k : IsBoundedNode n) (e : session_at (begin n now).sessions h ≡ Some y) where
  there : IsAt (begin n now).sessions h.place y
  there = state_slot (begin n now).sessions h y e

  number : y.number ≡ h.number
  number = number_at (begin n now).sessions h y e

  was : (x : SessionState) → IsAt n.sessions h.place x → x.number ≡ y.number → x.stream ≡ y.stream → stream_reply n.sessions h ≡ Some y.stream
  was x f i j = ap stream_of (at_handle n.sessions h x f (i ∙ number)) ∙ ap Some j

  was_due : (x : SessionState) (b : Bool) (reading : ℕ) → IsAt n.sessions h.place x → cond b None (Some (with_transcript x (with_mark x.view (Expired reading)))) ≡ Some y
      → stream_reply n.sessions h ≡ Some y.stream
  was_due x true reading f g = absurd (cc)
  was_due x false reading f g =
      let same : with_transcript x (with_mark x.view (Expired reading)) ≡ y = some_state (with_transcript x (with_mark x.view (Expired reading))) y g in
      was x f (ap (λ (s : SessionState). s.number) same) (ap (λ (s : SessionState). s.stream) same)

  was_on : stream_reply n.sessions h ≡ Some y.stream
  was_on = by_slot (slice_index_or n.sessions.places h.place None) refl where
    by_each : (x : SessionState) → IsAt n.sessions h.place x
        → IsAt (begin n now).sessions h.place x
        ⊎ (IsDue (begin n now).reading x × (slice_index_or (begin n now).sessions.places h.place None ≡ timed_out (begin n now).reading x) × (past_of (begin n now).streams x.stream ≡ None))
        → stream_reply n.sessions h ≡ Some y.stream
    by_each x f (inl i) = let same : x ≡ y = some_state x y (sym i ∙ there) in was x f (ap (λ (s : SessionState). s.number) same) (ap (λ (s : SessionState). s.stream) same)
    by_each x f (inr d) = was_due x (is_leaving (with_transcript x (with_mark x.view (Expired (begin n now).reading)))) (begin n now).reading f (sym d.1 ∙ there)

    by_slot : (o : Option SessionState) → slice_index_or n.sessions.places h.place None ≡ o → stream_reply n.sessions h ≡ Some y.stream
    by_slot None f = let clash : None ≡ Some y = sym ((sessions_time_out n now k).empty h.place f) ∙ there in absurd (cc)
    by_slot (Some x) f = by_each x f ((sessions_time_out n now k).each h.place x f)

pub ended_stay : EndedSessionsStay
ended_stay n after now asa h verdict x k s =
    let z : Sessions = (begin n now).sessions in
    let m = end_means_lem (begin n now) asa h verdict answers.Done (begin_kept n now k) s.acts.0 in
    let y : SessionState = m.session in
    let e : session_at z h ≡ Some y = (owned_at z asa h y m.holds.owned).0 in
    let w : SessionState = with_transcript y (having_said y.view (begin n now).reading (SayEnd verdict)) in
    let at : IsAt (with_place z h.place (Some w)) h.place w = get_or-set_same z.places h.place (Some w) None (at_below z.places h.place y (there n now h y k e)) in record {
      stream = y.stream;
      before = was_on n now h y k e;
      begun = ap stream_of e;
      still = ap (λ (b : NodeState). stream_reply b.sessions h) (s.acts.1 ∙ m.leads) ∙ ap stream_of (at_handle (with_place z h.place (Some w)) h w at (number n now h y k e));
    }

-- which stream a call accepts on can be asked before its step has begun
same_stream : (n after : NodeState) (now asa : ℕ) (call : Call) (x : Coming) (r : Reply) → IsBoundedNode n → NodeStep n now (input.Api asa call) x r after
    → acceptances_of (begin n now) (input.Api asa call) r ≡ acceptances_of n (input.Api asa call) r
same_stream n after now asa (calls.EndNegotiate h Accept) x (reply.Api answers.Done) k s =
    let t : StaysOn n now h after = ended_stay n after now asa h Accept x k s in ap option_to_list (t.begun ∙ sym t.before)
same_stream n after now asa _ x _ k s = refl

-- ---- what a step queues

-- one that leaves the queue as it was, but for outputs that don't accept
silent : (q : List Queued) (l : List ℕ) → l ≡ accepted_on q → l ≡ accepted_on q ++ []
silent q l e = e ∙ sym (append-nil (accepted_on q))

calls_say : (n after : NodeState) (asa : ℕ) (call : Call) (r : Reply) → IsBoundedNode n → Calls n asa call r after
    → accepted_on after.queue ≡ accepted_on n.queue ++ cond (was_done r) (accepts_on n call) []
calls_say n after asa call (reply.Api a) k c = ap (λ (m : NodeState). accepted_on m.queue) c.1 ∙ call_says n asa call a k c.0
calls_say n after asa call (reply.Refused refused) k c = silent n.queue (accepted_on after.queue) (ap (λ (m : NodeState). accepted_on m.queue) c.1)
calls_say n after asa call _ k c = absurd c

by_peers : (n after : NodeState) (now : ℕ) (i : Input) (x : Coming) (r : Reply) → IsPeers i → NodeStep n now i x r after → accepted_on after.queue ≡ accepted_on (begin n now).queue ++ []
by_peers n after now i x r p s = silent (begin n now).queue (accepted_on after.queue) (peers_say (begin n now) after i x r p s.is_coming s.acts)

-- but for a drain
step_says : (n after : NodeState) (now : ℕ) (i : Input) (x : Coming) (r : Reply) → IsNoDrain i → IsBoundedNode n → NodeStep n now i x r after
    → accepted_on after.queue ≡ accepted_on (begin n now).queue ++ acceptances_of n i r
step_says n after now (input.Api asa call) x r g k s =
    calls_say (begin n now) after asa call r (begin_kept n now k) s.acts ∙ ap (λ l. accepted_on (begin n now).queue ++ l) (same_stream n after now asa call x r k s)
step_says n after now (input.Drain max) x r g k s = absurd g
step_says n after now (input.Datagram link from bytes) x r g k s = by_peers n after now (input.Datagram link from bytes) x r tt s
step_says n after now (input.Opened stream from) x r g k s = by_peers n after now (input.Opened stream from) x r tt s
step_says n after now (input.Bytes stream bytes) x r g k s = by_peers n after now (input.Bytes stream bytes) x r tt s
step_says n after now (input.Closed stream) x r g k s = by_peers n after now (input.Closed stream) x r tt s

-- behind what was queued
step_gains : (n after : NodeState) (now : ℕ) (i : Input) (x : Coming) (r : Reply) → IsNoDrain i → IsBoundedNode n → NodeStep n now i x r after → accepted_on (gained n after) ≡ acceptances_of n i r
step_gains n after now i x r g k s =
    append_cancel_left (accepted_on n.queue) (accepted_on (gained n after)) (acceptances_of n i r)
    (sym (accepted_both n.queue (gained n after))
    ∙ (ap accepted_on (sym (dials_counted n after now i x r g s).queued)
    ∙ (step_says n after now i x r g k s ∙ ap (λ (q : List Queued). accepted_on q ++ acceptances_of n i r) (beginnings_end n now).0.queue)))

-- a drain takes from the front
drain_gains : (n after : NodeState) (now max : ℕ) (r : Reply) → DrainQueues (begin n now) max r after → gained n after ≡ []
drain_gains n after now max (reply.Outputs outputs) e = ap (drop (length n.queue)) (e ∙ ap (drop max) (beginnings_end n now).0.queue) ∙ dropped max n.queue
drain_gains n after now max _ e = ap (drop (length n.queue)) (e ∙ (beginnings_end n now).0.queue) ∙ dropped 0 n.queue

pub acceptances_are : AcceptancesAreCalls
acceptances_are n after now (input.Drain max) x r k s = ap accepted_on (drain_gains n after now max r (relays_once n after now (input.Drain max) x r s))
acceptances_are n after now (input.Api asa call) x r k s = step_gains n after now (input.Api asa call) x r tt k s
acceptances_are n after now (input.Datagram link from bytes) x r k s = step_gains n after now (input.Datagram link from bytes) x r tt k s
acceptances_are n after now (input.Opened stream from) x r k s = step_gains n after now (input.Opened stream from) x r tt k s
acceptances_are n after now (input.Bytes stream bytes) x r k s = step_gains n after now (input.Bytes stream bytes) x r tt k s
acceptances_are n after now (input.Closed stream) x r k s = step_gains n after now (input.Closed stream) x r tt k s
