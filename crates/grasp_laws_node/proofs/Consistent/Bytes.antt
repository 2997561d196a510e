-- Each piece of a stream leaves the parts of a node as they hold together.
use Rattle.std.proofs.Common.{◌≡◌, ℕ, ◌+◌, Bool, true, false, cond, nat_le, List, [], ◌∷◌, length, Option, Some, None, IsSome, refl, sym, ap, ◌∙◌, subst}
use Rattle.grasp_session.specs.Runs.{EndsBy}
use Rattle.grasp_session.specs.Says.{IsAt}
use Rattle.grasp_session.specs.Sessions.{SessionState, after_mark}
use Rattle.grasp_session.specs.Transcript.{Closed, Starved, is_going}
use Rattle.grasp_types.specs.declared.message.Message.{Message}
use Rattle.grasp_wire.specs.Cutter.{Past}
use Rattle.grasp_wire.specs.Stream.{RestKind, waiting}
use Rattle.grasp_model_node.specs.Bytes.{most_bytes, Added, Adds, AddsOn, hear_on, hear_all, hear_fault, hear_rest, heard, past_after, left_as, broken, bytes_on, after_bytes, StarvesAt, after_closed}
use Rattle.grasp_model_node.specs.Hear.{Heard, hear, after_refusal, stays, shuts}
use Rattle.grasp_model_node.specs.Moves.{with_sessions, begin_closing, keep_past, drop_record}
use Rattle.grasp_model_node.specs.Node.{NodeState}
use Rattle.grasp_model_node.specs.BoundedNodes.{IsBoundedNode}
use Rattle.grasp_model_node.specs.Streams.{StreamRecord, StreamsState, record_of, past_in, past_of, has_record}
use Rattle.grasp_laws_node.proofs.Bounded.Bytes.{AreMessages, added_are, are_before, record_given, hear_on_kept, hear_all_kept, closing_heard}
use Rattle.grasp_laws_node.proofs.Bounded.Hear.{Hears}
use Rattle.grasp_laws_node.proofs.Bounded.Moves.{call_kept}
use Rattle.grasp_laws_node.proofs.OthersAlone.{others_self}
use Rattle.grasp_laws_node.proofs.Consistent.Hear.{Hearing, HeldBut, refusal_but, message_but, ends_but}
use Rattle.grasp_laws_node.proofs.Consistent.Moves.{IsHeld, drop_held, ended_held}
use Rattle.grasp_laws_node.proofs.Consistent.Streams.{record_set, others_past_set}
use Rattle.grasp_laws_node.proofs.Consistent.Table.{but_one, moved, tied_shut, tied_open, order, mark_shuts}

-- ---- the stream counts as closing

-- a record with this past
record HasPast (s : StreamsState) (stream : ℕ) (past : Past) : Type 0 where
  pub it : StreamRecord
  pub found : record_of s stream ≡ Some it

has_past : (s : StreamsState) (stream : ℕ) (past : Past) → past_of s stream ≡ Some past → HasPast s stream past
has_past s stream past e = by_record (record_of s stream) refl e where
  by_record : (o : Option StreamRecord) → record_of s stream ≡ o → past_in o ≡ Some past → HasPast s stream past
  by_record None f g = absurd (cc)
  by_record (Some y) f g = record { it = y; found = f }

starts : (n : NodeState) (stream : ℕ) (past : Past) → IsHeld n → past_of n.streams stream ≡ Some past → HeldBut stream true (begin_closing n stream)
unfolding begin_closing
starts n stream past h e = (
  record {
    but = moved stream n.sessions n.sessions n.streams (begin_closing n stream).streams (but_one stream n.sessions n.streams h.ties) (others_self stream n.sessions) (others_past_set n.streams stream None);
    heard = h.heard;
    fresh = h.fresh;
    here = record p.it { past = None };
    is_here = record_set n.streams stream None p.it p.found;
    shut = refl;
  },
  (λ place x at on. going place x at on (is_going x.view) refl, λ even. h.ties.dialled stream past even e),
) where
  p : HasPast n.streams stream past
  p = has_past n.streams stream past e

  going : (place : ℕ) (x : SessionState) → IsAt n.sessions place x → x.stream ≡ stream → (b : Bool) → is_going x.view ≡ b → is_going x.view ≡ true
  going place x at on true f = f
  going place x at on false f = let no : None ≡ Some past = sym (h.ties.ended place x at f) ∙ (ap (past_of n.streams) on ∙ e) in absurd (cc)

-- ---- the messages one after the other

hear_on_but : (stream : ℕ) (x : Heard) (m : Message) → Hears stream x.node → HeldBut stream x.is_open x.node → HeldBut stream (hear_on stream x m).is_open (hear_on stream x m).node
hear_on_but stream x m h k = by_test x.is_open refl where
  by_test : (b : Bool) → x.is_open ≡ b → HeldBut stream (cond b (hear x.node stream m) x).is_open (cond b (hear x.node stream m) x).node
  by_test true e = message_but stream x.node m h (subst (λ (b : Bool). HeldBut stream b x.node) e k)
  by_test false e = k

hear_all_but : (stream : ℕ) (ms : List Message) (x : Heard) → AreMessages ms → Hears stream x.node → HeldBut stream x.is_open x.node → HeldBut stream (hear_all stream ms x).is_open (hear_all stream ms x).node
unfolding hear_all
hear_all_but stream [] x a h k = k
hear_all_but stream (m ∷ ms) x a h k = hear_all_but stream ms (hear_on stream x m) a.1 (hear_on_kept stream x m a.0 h) (hear_on_but stream x m h k)

hear_fault_but : (stream : ℕ) (x : Heard) → Hears stream x.node → HeldBut stream x.is_open x.node → HeldBut stream (hear_fault stream x).is_open (hear_fault stream x).node
hear_fault_but stream x h k = by_test x.is_open where
  by_test : (b : Bool) → HeldBut stream (cond b (shuts (after_refusal x.node stream)) x).is_open (cond b (shuts (after_refusal x.node stream)) x).node
  by_test true = refusal_but stream x.node h k.0
  by_test false = k

hear_rest_but : (stream : ℕ) (rest : RestKind) (x : Heard) → Hears stream x.node → HeldBut stream x.is_open x.node → HeldBut stream (hear_rest stream rest x).is_open (hear_rest stream rest x).node
hear_rest_but stream waiting x h k = k
hear_rest_but stream _ x h k = hear_fault_but stream x h k

heard_but : (stream : ℕ) (n : NodeState) (a : Added) → AreMessages a.messages → Hears stream n → HeldBut stream true n → HeldBut stream (heard n stream a).is_open (heard n stream a).node
heard_but stream n a i h k =
    hear_rest_but stream a.kind (hear_all stream a.messages (stays n)) (hear_all_kept stream a.messages (stays n) i h) (hear_all_but stream a.messages (stays n) i h k)

-- ---- the stream is put back where it is still open

kept_held : (stream : ℕ) (past : Past) (n : NodeState) → HeldBut stream true n → IsHeld (keep_past n stream past)
unfolding keep_past
kept_held stream past n k = record {
  ties = tied_open stream n.sessions (keep_past n stream past).streams
      (moved stream n.sessions n.sessions n.streams (keep_past n stream past).streams k.0.but (others_self stream n.sessions) (others_past_set n.streams stream (Some past))) k.1.0
      (subst IsSome (sym (ap past_in (record_set n.streams stream (Some past) k.0.here k.0.is_here))) refl) k.1.1;
  heard = k.0.heard;
  fresh = k.0.fresh;
}

shut_held : (stream : ℕ) (n : NodeState) → HeldBut stream false n → IsHeld n
shut_held stream n k = record {
  ties = tied_shut stream n.sessions n.streams k.0.but k.1 (ap past_in k.0.is_here ∙ k.0.shut);
  heard = k.0.heard;
  fresh = k.0.fresh;
}

left_held : (stream : ℕ) (past : Past) (x : Heard) → HeldBut stream x.is_open x.node → IsHeld (left_as stream past x)
left_held stream past x k = by_test x.is_open refl where
  by_test : (b : Bool) → x.is_open ≡ b → IsHeld (cond b (keep_past x.node stream past) x.node)
  by_test true e = kept_held stream past x.node (subst (λ (b : Bool). HeldBut stream b x.node) e k)
  by_test false e = shut_held stream x.node (subst (λ (b : Bool). HeldBut stream b x.node) e k)

bytes_on_held : (n : NodeState) (stream : ℕ) (piece : List ℕ) (a : Added) (o : Option Past) → past_of n.streams stream ≡ o → AddsOn n.plan.limit piece a o → IsBoundedNode n → IsHeld n → IsHeld (bytes_on n stream piece a o)
bytes_on_held n stream piece a None e d k h = h
bytes_on_held n stream piece a (Some past) e d k h = by_test (nat_le (length past.fed + length piece) most_bytes) where
  by_test : (b : Bool) → IsHeld (cond b (left_as stream (past_after past piece a) (heard (begin_closing n stream) stream a)) (broken n stream))
  by_test true =
      left_held stream (past_after past piece a) (heard (begin_closing n stream) stream a)
      (heard_but stream (begin_closing n stream) a (added_are n.plan.limit past piece a d) (closing_heard stream n (k, record_given n stream past k e)) (starts n stream past h e))
  by_test false = ended_held n stream Closed k h

pub bytes_held : (n : NodeState) (stream : ℕ) (piece : List ℕ) (a : Added) → AddsOn n.plan.limit piece a (past_of n.streams stream) → IsBoundedNode n → IsHeld n → IsHeld (after_bytes n stream piece a)
unfolding after_bytes
bytes_held n stream piece a d k h = bytes_on_held n stream piece a (past_of n.streams stream) refl d k h

starves_held : (n : NodeState) (stream : ℕ) → Hears stream n → Hearing stream n → IsHeld (drop_record (with_sessions n (after_mark n.sessions stream Starved)) stream)
starves_held n stream h k =
    let s = mark_shuts n.sessions stream Starved (order n.sessions h.0.sessions) in
    let e = ends_but stream n (EndsBy stream Starved) h k tt tt s.others s.shut in
    drop_held (with_sessions n (after_mark n.sessions stream Starved)) stream (call_kept n (EndsBy stream Starved) h.0 tt tt).apart
    (record { but = e.0.but; shut = e.1; heard = e.0.heard; fresh = e.0.fresh })

pub starving_held : (n : NodeState) (stream : ℕ) (piece : List ℕ) (a : Added) (after : NodeState) → AddsOn n.plan.limit piece a (past_of n.streams stream) → StarvesAt n stream piece a after → IsBoundedNode n → IsHeld n → IsHeld after
starving_held n stream piece a after d s k h =
    let adds : Adds n.plan.limit s.past piece a = subst (AddsOn n.plan.limit piece a) s.was_open d in
    let some : AreMessages s.some = are_before s.some s.others (subst AreMessages s.parts (added_are n.plan.limit s.past piece a adds)) in
    let hears : Hears stream (begin_closing n stream) = closing_heard stream n (k, record_given n stream s.past k s.was_open) in
    let all = hear_all_but stream s.some (stays (begin_closing n stream)) some hears (starts n stream s.past h s.was_open) in
    subst IsHeld (sym s.after_is) (starves_held (hear_all stream s.some (stays (begin_closing n stream))).node stream (hear_all_kept stream s.some (stays (begin_closing n stream)) some hears) all.0)

pub closed_held : (n : NodeState) (stream : ℕ) → IsBoundedNode n → IsHeld n → IsHeld (after_closed n stream)
unfolding after_closed
closed_held n stream k h = by_test (has_record n.streams stream) where
  by_test : (b : Bool) → IsHeld (cond b (broken n stream) n)
  by_test true = ended_held n stream Closed k h
  by_test false = h
