-- Each message that is heard leaves a node with messages in range.
use Rattle.std.proofs.Common.{ℕ, ◌<◌, ◌^◌, Bool, true, false, cond, List, All, Option, Some, None, Result, Ok, Err}
use Rattle.grasp_asa.specs.Answers.{value_offered}
use Rattle.grasp_cbor.specs.DataItem.{DataItem}
use Rattle.grasp_discovery.specs.Discoveries.{asker_of, after_answered, end_of}
use Rattle.grasp_discovery.specs.declared.answers.Answered.{Answered}
use Rattle.grasp_discovery.specs.declared.answers.Answered.TheVariants.{Relay}
use Rattle.grasp_discovery.specs.declared.topic.Topic.{Topic}
use Rattle.grasp_session.specs.Sessions.{state_reply, receive_reply, after_receive, after_mark, start_reply, after_start}
use Rattle.grasp_session.specs.Transcript.{Faulty}
use Rattle.grasp_session.specs.declared.answer.Received.{Received}
use Rattle.grasp_session.specs.declared.answer.Received.TheVariants.{Kept, Ignored, Bad}
use Rattle.grasp_session.specs.declared.answer.SessionRefused.{SessionRefused}
use Rattle.std.specs.Prelude.{IfSome}
use Rattle.std.specs.Str.{IsUtf8}
use Rattle.grasp_types.specs.Address.{IsLocator}
use Rattle.grasp_types.specs.Message.{IsMessage, IsAnswer}
use Rattle.grasp_types.specs.Objective.{has_synch, IsObjective, IsValue}
use Rattle.grasp_types.specs.declared.message.Answer.{Answer}
use Rattle.grasp_types.specs.declared.message.Answer.TheVariants.{Locators, Divert}
use Rattle.grasp_types.specs.Origin.{origin_of}
use Rattle.grasp_types.specs.declared.address.Locator.{Locator}
use Rattle.grasp_types.specs.declared.links.Neighbour.{Neighbour}
use Rattle.grasp_types.specs.declared.message.Message.{Message}
use Rattle.grasp_types.specs.declared.message.Message.TheVariants.{Noop, Discovery, Response, ReqNeg, ReqSyn, Negotiate, End, Wait, Synch, Flood, Invalid}
use Rattle.grasp_types.specs.declared.objective.Objective.{Objective}
use Rattle.grasp_types.specs.declared.session.Handle.{Handle}
use Rattle.grasp_model_node.specs.Declines.{declined_for, unlistened, busy}
use Rattle.grasp_model_node.specs.Hear.{refused_by, after_refusal, hear_later_by, is_listened, declines, untaken, listened, hear_request, synched, hear_synchronization, answered_with, neighbour_at, dial_neighbour, sent_on, responded, hear_first, hear_by, hear}
use Rattle.grasp_model_node.specs.Moves.{with_sessions, with_discoveries, answer}
use Rattle.grasp_model_node.specs.Node.{NodeState}
use Rattle.grasp_model_node.specs.declared.plan.NodePlan.{NodePlan}
use Rattle.grasp_laws_delivery.proofs.InRange.Moves.{IsInRange, sessions_real, discoveries_real, answer_real, dial_with_real}
use Rattle.grasp_laws_delivery.proofs.Fine.Cache.{answered_kept}
use Rattle.grasp_laws_delivery.proofs.Fine.Registry.{value_is}
use Rattle.grasp_laws_delivery.proofs.Fine.Sessions.{IsSmall, state_small, receive_fine, mark_fine, start_fine}
use Rattle.grasp_laws_delivery.proofs.Fine.Short.{unlistened_is, busy_is}

-- ---- a later message

refused_real : (plan : NodePlan) (n : NodeState) (stream : ℕ) (o : Option (ℕ × Bool)) → IsSmall o → IsInRange plan n → IsInRange plan (refused_by n stream o)
refused_real plan n stream None small k = k
refused_real plan n stream (Some state) small k = by_test state.1 (answer_real plan n stream (Invalid state.0 None) (small, tt) k) where
  by_test : (b : Bool) → IsInRange plan (answer n stream (Invalid state.0 None)) → IsInRange plan (cond b n (with_sessions (answer n stream (Invalid state.0 None)) (after_mark n.sessions stream Faulty)))
  by_test true a = k
  by_test false a = sessions_real plan (answer n stream (Invalid state.0 None)) (after_mark n.sessions stream Faulty) (mark_fine n.sessions stream Faulty k.sessions) a

pub refusal_real : (plan : NodePlan) (n : NodeState) (stream : ℕ) → IsInRange plan n → IsInRange plan (after_refusal n stream)
refusal_real plan n stream k = refused_real plan n stream (state_reply n.sessions stream) (state_small n.sessions stream k.sessions) k

later_real : (plan : NodePlan) (n : NodeState) (stream : ℕ) (m : Message) (r : Received) → IsMessage m → IsInRange plan n → IsInRange plan (hear_later_by n stream m r).node
later_real plan n stream m Kept is k = sessions_real plan n (after_receive n.sessions n.reading stream m Kept) (receive_fine n.sessions n.reading stream m Kept is k.sessions) k
later_real plan n stream m Ignored is k = k
later_real plan n stream m Bad is k = refusal_real plan n stream k

-- ---- a first message

declines_real : (plan : NodePlan) (n : NodeState) (stream session : ℕ) (reason : List ℕ) → session < 2 ^ 32 → IsUtf8 reason → IsInRange plan n → IsInRange plan (declines n stream session reason).node
declines_real plan n stream session reason small is k = answer_real plan n stream (End session (declined_for reason)) (small, is) k

listened_real : (plan : NodePlan) (n : NodeState) (stream session : ℕ) (o : Objective) (r : Result Handle SessionRefused) → session < 2 ^ 32 → IsObjective o → IsInRange plan n
    → IsInRange plan (listened n stream session o r).node
listened_real plan n stream session o (Ok h) small is k =
    sessions_real plan n (after_start n.sessions n.reading (untaken stream session o) (Ok h)) (start_fine n.sessions n.reading (untaken stream session o) (Ok h) small is k.sessions) k
listened_real plan n stream session o (Err refused) small is k = declines_real plan n stream session busy small busy_is k

request_real : (plan : NodePlan) (n : NodeState) (stream session : ℕ) (o : Objective) → session < 2 ^ 32 → IsObjective o → IsInRange plan n → IsInRange plan (hear_request n stream session o).node
request_real plan n stream session o small is k = by_test (is_listened n.registrations o) where
  by_test : (b : Bool) → IsInRange plan (cond b (listened n stream session o (start_reply n.sessions)) (declines n stream session unlistened)).node
  by_test true = listened_real plan n stream session o (start_reply n.sessions) small is k
  by_test false = declines_real plan n stream session unlistened small unlistened_is k

synched_real : (plan : NodePlan) (n : NodeState) (stream session : ℕ) (o : Objective) (value : Option DataItem) → session < 2 ^ 32 → IsObjective o → IfSome value IsValue → IsInRange plan n
    → IsInRange plan (synched n stream session o value).node
synched_real plan n stream session o None small is v k = declines_real plan n stream session unlistened small unlistened_is k
synched_real plan n stream session o (Some value) small is v k =
    answer_real plan n stream (Synch session (record o { value = Some value })) (small, record { name = is.name; flags = is.flags; loops = is.loops; value = v }) k

synchronization_real : (plan : NodePlan) (n : NodeState) (stream session : ℕ) (o : Objective) → session < 2 ^ 32 → IsObjective o → IsInRange plan n
    → IsInRange plan (hear_synchronization n stream session o).node
synchronization_real plan n stream session o small is k = by_test (has_synch o.flags) where
  by_test : (b : Bool) → IsInRange plan (cond b (synched n stream session o (value_offered n.registrations o.name)) (declines n stream session unlistened)).node
  by_test true = synched_real plan n stream session o (value_offered n.registrations o.name) small is (value_is n.registrations o.name k.registrations) k
  by_test false = declines_real plan n stream session unlistened small unlistened_is k

neighbour_real : (plan : NodePlan) (n : NodeState) (o : Option Neighbour) (m : Message) → IsMessage m → IsInRange plan n → IsInRange plan (dial_neighbour n o m)
neighbour_real plan n None m is k = k
neighbour_real plan n (Some neighbour) m is k = dial_with_real plan n neighbour.locator m is k

sent_on_real : (plan : NodePlan) (n : NodeState) (m : Message) (asker : Option (Answered × Topic)) → IsMessage m → IsInRange plan n → IsInRange plan (sent_on n m asker)
sent_on_real plan n m (Some (Relay cause, topic)) is k = neighbour_real plan n (neighbour_at n cause.link cause.from) m is k
sent_on_real plan n m _ is k = k

responded_real : (plan : NodePlan) (n : NodeState) (ttl : ℕ) (locators : List Locator) (m : Message) (asker : Option (Answered × Topic)) → All IsLocator locators → IsMessage m → IsInRange plan n
    → IsInRange plan (responded n ttl locators m asker)
responded_real plan n ttl locators m asker are is k =
    let d = after_answered n.discoveries (end_of n.reading ttl) locators asker in
    sent_on_real plan (with_discoveries n d) m asker is (discoveries_real plan n d (answered_kept n.discoveries (end_of n.reading ttl) locators asker are k.cached) k)

told_are : (told : Answer) → IsAnswer told → All IsLocator (answered_with told)
told_are (Locators locators) h = h.each
told_are (Divert locators) h = h.each

strange_real : (plan : NodePlan) (n : NodeState) (stream session : ℕ) → session < 2 ^ 32 → IsInRange plan n → IsInRange plan (answer n stream (Invalid session None))
strange_real plan n stream session small k = answer_real plan n stream (Invalid session None) (small, tt) k

first_real : (plan : NodePlan) (n : NodeState) (stream : ℕ) (m : Message) → IsMessage m → IsInRange plan n → IsInRange plan (hear_first n stream m).node
first_real plan n stream Noop is k = k
first_real plan n stream (ReqNeg session o) is k = request_real plan n stream session o is.0 is.1 k
first_real plan n stream (ReqSyn session o) is k = synchronization_real plan n stream session o is.0 is.1 k
first_real plan n stream (Response session initiator ttl told o) is k =
    responded_real plan n ttl (answered_with told) (Response session initiator ttl told o) (asker_of n.discoveries n.plan.address (origin_of session initiator)) (told_are told is.3) is k
first_real plan n stream (Invalid session detail) is k = k
first_real plan n stream (Discovery session initiator o) is k = strange_real plan n stream session is.0 k
first_real plan n stream (Negotiate session o) is k = strange_real plan n stream session is.0 k
first_real plan n stream (End session verdict) is k = strange_real plan n stream session is.0 k
first_real plan n stream (Wait session millis) is k = strange_real plan n stream session is.0 k
first_real plan n stream (Synch session o) is k = strange_real plan n stream session is.0 k
first_real plan n stream (Flood session initiator ttl parts) is k = strange_real plan n stream session is.0 k

pub message_real : (plan : NodePlan) (n : NodeState) (stream : ℕ) (m : Message) → IsMessage m → IsInRange plan n → IsInRange plan (hear n stream m).node
unfolding hear
message_real plan n stream m is k = by_state (state_reply n.sessions stream) where
  by_state : (o : Option (ℕ × Bool)) → IsInRange plan (hear_by n stream m o).node
  by_state None = first_real plan n stream m is k
  by_state (Some state) = later_real plan n stream m (receive_reply n.sessions stream m) is k
