-- Each piece of a stream leaves a node with messages in range.
use Rattle.std.proofs.Common.{ℕ, ◌+◌, Bool, true, false, cond, nat_le, List, [], ◌∷◌, ◌++◌, length, Option, Some, None, sym, subst}
use Rattle.grasp_session.specs.Sessions.{after_mark}
use Rattle.grasp_session.specs.Transcript.{Mark, Closed, Starved}
use Rattle.grasp_types.specs.Message.{IsMessage}
use Rattle.grasp_types.specs.declared.message.Message.{Message}
use Rattle.grasp_wire.specs.Cutter.{Past}
use Rattle.grasp_wire.specs.Stream.{RestKind, waiting}
use Rattle.grasp_wire.specs.Wire.{AreWireForms}
use Rattle.grasp_model_node.specs.Bytes.{most_bytes, Added, Adds, AddsOn, hear_on, hear_all, hear_fault, hear_rest, heard, past_after, left_as, broken, bytes_on, after_bytes, StarvesAt, after_closed}
use Rattle.grasp_model_node.specs.Hear.{Heard, hear, after_refusal, stays, shuts}
use Rattle.grasp_model_node.specs.Moves.{with_sessions, begin_closing, keep_past, drop_record}
use Rattle.grasp_model_node.specs.Node.{NodeState}
use Rattle.grasp_model_node.specs.Streams.{past_of, has_record}
use Rattle.grasp_model_node.specs.declared.plan.NodePlan.{NodePlan}
use Rattle.grasp_laws_delivery.proofs.Fine.Sessions.{mark_fine}
use Rattle.grasp_laws_delivery.proofs.InRange.Hear.{refusal_real, message_real}
use Rattle.grasp_laws_delivery.proofs.InRange.Moves.{IsInRange, either, sessions_real, closing_real, keep_past_real, drop_real}

-- ---- what a piece adds are messages

abbrev AreMessages : List Message → Type 0
AreMessages [] = Unit {0}
AreMessages (m ∷ ms) = IsMessage m × AreMessages ms

forms_are : (ms : List Message) (bytes : List ℕ) (limit : ℕ) → AreWireForms ms bytes limit → AreMessages ms
forms_are [] bytes limit f = tt
forms_are (m ∷ ms) bytes limit f = (f.2.is_message, forms_are ms f.1 limit f.3)

are_behind : (ms others : List Message) → AreMessages (ms ++ others) → AreMessages others
are_behind [] others a = a
are_behind (m ∷ ms) others a = are_behind ms others a.1

are_before : (ms others : List Message) → AreMessages (ms ++ others) → AreMessages ms
are_before [] others a = tt
are_before (m ∷ ms) others a = (a.0, are_before ms others a.1)

added_are : (limit : ℕ) (past : Past) (piece : List ℕ) (a : Added) → Adds limit past piece a → AreMessages a.messages
added_are limit past piece a d = are_behind past.given a.messages (forms_are (past.given ++ a.messages) d.splits.front limit d.splits.forms)

-- ---- the messages one after the other

hear_on_real : (plan : NodePlan) (stream : ℕ) (x : Heard) (m : Message) → IsMessage m → IsInRange plan x.node → IsInRange plan (hear_on stream x m).node
hear_on_real plan stream x m is k = by_test x.is_open where
  by_test : (b : Bool) → IsInRange plan (cond b (hear x.node stream m) x).node
  by_test true = message_real plan x.node stream m is k
  by_test false = k

hear_all_real : (plan : NodePlan) (stream : ℕ) (ms : List Message) (x : Heard) → AreMessages ms → IsInRange plan x.node → IsInRange plan (hear_all stream ms x).node
unfolding hear_all
hear_all_real plan stream [] x are k = k
hear_all_real plan stream (m ∷ ms) x are k = hear_all_real plan stream ms (hear_on stream x m) are.1 (hear_on_real plan stream x m are.0 k)

hear_fault_real : (plan : NodePlan) (stream : ℕ) (x : Heard) → IsInRange plan x.node → IsInRange plan (hear_fault stream x).node
hear_fault_real plan stream x k = by_test x.is_open where
  by_test : (b : Bool) → IsInRange plan (cond b (shuts (after_refusal x.node stream)) x).node
  by_test true = refusal_real plan x.node stream k
  by_test false = k

hear_rest_real : (plan : NodePlan) (stream : ℕ) (rest : RestKind) (x : Heard) → IsInRange plan x.node → IsInRange plan (hear_rest stream rest x).node
hear_rest_real plan stream waiting x k = k
hear_rest_real plan stream _ x k = hear_fault_real plan stream x k

heard_real : (plan : NodePlan) (n : NodeState) (stream : ℕ) (a : Added) → AreMessages a.messages → IsInRange plan n → IsInRange plan (heard n stream a).node
heard_real plan n stream a are k = hear_rest_real plan stream a.kind (hear_all stream a.messages (stays n)) (hear_all_real plan stream a.messages (stays n) are k)

left_real : (plan : NodePlan) (stream : ℕ) (past : Past) (x : Heard) → IsInRange plan x.node → IsInRange plan (left_as stream past x)
left_real plan stream past x k = by_test x.is_open where
  by_test : (b : Bool) → IsInRange plan (cond b (keep_past x.node stream past) x.node)
  by_test true = keep_past_real plan x.node stream past k
  by_test false = k

-- ---- a piece

ended_real : (plan : NodePlan) (n : NodeState) (stream : ℕ) (mark : Mark) → IsInRange plan n → IsInRange plan (drop_record (with_sessions n (after_mark n.sessions stream mark)) stream)
ended_real plan n stream mark k =
    drop_real plan (with_sessions n (after_mark n.sessions stream mark)) stream (sessions_real plan n (after_mark n.sessions stream mark) (mark_fine n.sessions stream mark k.sessions) k)

bytes_on_real : (plan : NodePlan) (n : NodeState) (stream : ℕ) (piece : List ℕ) (a : Added) (o : Option Past) → AddsOn n.plan.limit piece a o → IsInRange plan n → IsInRange plan (bytes_on n stream piece a o)
bytes_on_real plan n stream piece a None d k = k
bytes_on_real plan n stream piece a (Some past) d k = by_test (nat_le (length past.fed + length piece) most_bytes) where
  by_test : (b : Bool) → IsInRange plan (cond b (left_as stream (past_after past piece a) (heard (begin_closing n stream) stream a)) (broken n stream))
  by_test true =
      left_real plan stream (past_after past piece a) (heard (begin_closing n stream) stream a)
      (heard_real plan (begin_closing n stream) stream a (added_are n.plan.limit past piece a d) (closing_real plan n stream k))
  by_test false = ended_real plan n stream Closed k

pub bytes_real : (plan : NodePlan) (n : NodeState) (stream : ℕ) (piece : List ℕ) (a : Added) → AddsOn n.plan.limit piece a (past_of n.streams stream) → IsInRange plan n → IsInRange plan (after_bytes n stream piece a)
unfolding after_bytes
bytes_real plan n stream piece a d k = bytes_on_real plan n stream piece a (past_of n.streams stream) d k

pub starving_real : (plan : NodePlan) (n : NodeState) (stream : ℕ) (piece : List ℕ) (a : Added) (after : NodeState) → AddsOn n.plan.limit piece a (past_of n.streams stream) → StarvesAt n stream piece a after → IsInRange plan n
    → IsInRange plan after
starving_real plan n stream piece a after d s k =
    let adds : Adds n.plan.limit s.past piece a = subst (AddsOn n.plan.limit piece a) s.was_open d in
    let are : AreMessages s.some = are_before s.some s.others (subst AreMessages s.parts (added_are n.plan.limit s.past piece a adds)) in
    let all = hear_all_real plan stream s.some (stays (begin_closing n stream)) are (closing_real plan n stream k) in
    subst (IsInRange plan) (sym s.after_is) (ended_real plan (hear_all stream s.some (stays (begin_closing n stream))).node stream Starved all)

pub closed_real : (plan : NodePlan) (n : NodeState) (stream : ℕ) → IsInRange plan n → IsInRange plan (after_closed n stream)
unfolding after_closed
closed_real plan n stream k = either plan (has_record n.streams stream) (broken n stream) n (ended_real plan n stream Closed k) k
