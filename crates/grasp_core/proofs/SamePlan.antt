-- What is heard on a stream leaves a node's plan as it is.
use Rattle.std.proofs.Common.{◌≡◌, ℕ, Bool, true, false, ◌&&◌, not, List, [], ◌∷◌, Option, None, Some, Result, Ok, Err, refl, ◌∙◌, if◌then◌else◌}
use Rattle.grasp_asa.specs.Answers.{value_offered}
use Rattle.grasp_cbor.specs.DataItem.{DataItem}
use Rattle.grasp_discovery.specs.Discoveries.{asker_of, after_answered, end_of}
use Rattle.grasp_discovery.specs.declared.answers.Answered.{Answered}
use Rattle.grasp_discovery.specs.declared.answers.Answered.TheVariants.{Relay}
use Rattle.grasp_discovery.specs.declared.topic.Topic.{Topic}
use Rattle.grasp_session.specs.Sessions.{state_reply, receive_reply, start_reply}
use Rattle.grasp_session.specs.declared.answer.Received.{Received}
use Rattle.grasp_session.specs.declared.answer.Received.TheVariants.{Kept, Ignored, Bad}
use Rattle.grasp_session.specs.declared.answer.SessionRefused.{SessionRefused}
use Rattle.grasp_types.specs.Objective.{has_synch}
use Rattle.grasp_types.specs.Origin.{origin_of}
use Rattle.grasp_types.specs.declared.address.Locator.{Locator}
use Rattle.grasp_types.specs.declared.links.Neighbour.{Neighbour}
use Rattle.grasp_types.specs.declared.message.Answer.{Answer}
use Rattle.grasp_types.specs.declared.message.Message.{Message}
use Rattle.grasp_types.specs.declared.message.Message.TheVariants.{Noop, Discovery, Response, ReqNeg, ReqSyn, Negotiate, End, Wait, Synch, Flood, Invalid}
use Rattle.grasp_types.specs.declared.objective.Objective.{Objective}
use Rattle.grasp_types.specs.declared.session.Handle.{Handle}
use Rattle.grasp_wire.specs.Stream.{RestKind, waiting}
use Rattle.grasp_model_node.specs.Bytes.{Added, hear_on, hear_all, hear_fault, hear_rest, heard}
use Rattle.grasp_model_node.specs.Declines.{declined_for, unlistened, busy}
use Rattle.grasp_model_node.specs.Hear.{Heard, stays, hear, hear_by, hear_first, hear_later_by, hear_request, hear_synchronization, listened, synched, is_listened, refused_by, after_refusal, sent_on, dial_neighbour, neighbour_at, answered_with}
use Rattle.grasp_model_node.specs.Moves.{with_sessions, with_discoveries, queue_up, dial_record, answer, dial_with, may_queue}
use Rattle.grasp_model_node.specs.Node.{NodeState}
use Rattle.grasp_model_node.specs.Streams.{is_dialled_out}
use Rattle.grasp_model_node.specs.declared.plan.NodePlan.{NodePlan}

if-plan : (b : Bool) (x y : NodeState) (p : NodePlan) → x.plan ≡ p → y.plan ≡ p → (if b then x else y).plan ≡ p
if-plan true x y p e f = e
if-plan false x y p e f = f

if_heard-plan : (b : Bool) (x y : Heard) (p : NodePlan) → x.node.plan ≡ p → y.node.plan ≡ p → (if b then x else y).node.plan ≡ p
if_heard-plan true x y p e f = e
if_heard-plan false x y p e f = f

answer-plan : (n : NodeState) (stream : ℕ) (m : Message) → (answer n stream m).plan ≡ n.plan
unfolding queue_up
answer-plan n stream m = if-plan (may_queue n m 1) _ n n.plan refl refl

dial_with-plan : (n : NodeState) (to : Locator) (m : Message) → (dial_with n to m).plan ≡ n.plan
unfolding queue_up dial_record
dial_with-plan n to m = if-plan (may_queue n m 2 && not (is_dialled_out n.streams)) _ n n.plan refl refl

refused_by-plan : (n : NodeState) (stream : ℕ) (state : Option (ℕ × Bool)) → (refused_by n stream state).plan ≡ n.plan
unfolding with_sessions
refused_by-plan n stream None = refl
refused_by-plan n stream (Some state) = if-plan state.1 n _ n.plan refl (answer-plan n stream (Invalid state.0 None))

pub after_refusal-plan : (n : NodeState) (stream : ℕ) → (after_refusal n stream).plan ≡ n.plan
after_refusal-plan n stream = refused_by-plan n stream (state_reply n.sessions stream)

later-plan : (n : NodeState) (stream : ℕ) (m : Message) (r : Received) → (hear_later_by n stream m r).node.plan ≡ n.plan
unfolding with_sessions
later-plan n stream m Kept = refl
later-plan n stream m Ignored = refl
later-plan n stream m Bad = after_refusal-plan n stream

listened-plan : (n : NodeState) (stream session : ℕ) (o : Objective) (r : Result Handle SessionRefused) → (listened n stream session o r).node.plan ≡ n.plan
unfolding with_sessions
listened-plan n stream session o (Ok h) = refl
listened-plan n stream session o (Err refused) = answer-plan n stream (End session (declined_for busy))

request-plan : (n : NodeState) (stream session : ℕ) (o : Objective) → (hear_request n stream session o).node.plan ≡ n.plan
request-plan n stream session o = if_heard-plan (is_listened n.registrations o) _ _ n.plan (listened-plan n stream session o (start_reply n.sessions)) (answer-plan n stream (End session (declined_for unlistened)))

synched-plan : (n : NodeState) (stream session : ℕ) (o : Objective) (value : Option DataItem) → (synched n stream session o value).node.plan ≡ n.plan
synched-plan n stream session o None = answer-plan n stream (End session (declined_for unlistened))
synched-plan n stream session o (Some value) = answer-plan n stream (Synch session (record o { value = Some value }))

synchronization-plan : (n : NodeState) (stream session : ℕ) (o : Objective) → (hear_synchronization n stream session o).node.plan ≡ n.plan
synchronization-plan n stream session o = if_heard-plan (has_synch o.flags) _ _ n.plan (synched-plan n stream session o (value_offered n.registrations o.name)) (answer-plan n stream (End session (declined_for unlistened)))

neighbour-plan : (n : NodeState) (neighbour : Option Neighbour) (m : Message) → (dial_neighbour n neighbour m).plan ≡ n.plan
neighbour-plan n None m = refl
neighbour-plan n (Some neighbour) m = dial_with-plan n neighbour.locator m

sent_on-plan : (n : NodeState) (m : Message) (asker : Option (Answered × Topic)) → (sent_on n m asker).plan ≡ n.plan
sent_on-plan n m (Some (Relay cause, topic)) = neighbour-plan n (neighbour_at n cause.link cause.from) m
sent_on-plan n m _ = refl

response-plan : (n : NodeState) (ttl : ℕ) (told : Answer) (m : Message) (asker : Option (Answered × Topic)) → (sent_on (with_discoveries n (after_answered n.discoveries (end_of n.reading ttl) (answered_with told) asker)) m asker).plan ≡ n.plan
unfolding with_discoveries
response-plan n ttl told m asker = sent_on-plan (with_discoveries n (after_answered n.discoveries (end_of n.reading ttl) (answered_with told) asker)) m asker

first-plan : (n : NodeState) (stream : ℕ) (m : Message) → (hear_first n stream m).node.plan ≡ n.plan
first-plan n stream Noop = refl
first-plan n stream (ReqNeg session o) = request-plan n stream session o
first-plan n stream (ReqSyn session o) = synchronization-plan n stream session o
first-plan n stream (Response session initiator ttl told o) = response-plan n ttl told (Response session initiator ttl told o) (asker_of n.discoveries n.plan.address (origin_of session initiator))
first-plan n stream (Invalid session detail) = refl
first-plan n stream (Discovery session initiator o) = answer-plan n stream (Invalid session None)
first-plan n stream (Negotiate session o) = answer-plan n stream (Invalid session None)
first-plan n stream (End session verdict) = answer-plan n stream (Invalid session None)
first-plan n stream (Wait session millis) = answer-plan n stream (Invalid session None)
first-plan n stream (Synch session o) = answer-plan n stream (Invalid session None)
first-plan n stream (Flood session initiator ttl parts) = answer-plan n stream (Invalid session None)

by_state-plan : (n : NodeState) (stream : ℕ) (m : Message) (state : Option (ℕ × Bool)) → (hear_by n stream m state).node.plan ≡ n.plan
by_state-plan n stream m None = first-plan n stream m
by_state-plan n stream m (Some state) = later-plan n stream m (receive_reply n.sessions stream m)

-- a message
pub hear-plan : (n : NodeState) (stream : ℕ) (m : Message) → (hear n stream m).node.plan ≡ n.plan
unfolding hear
hear-plan n stream m = by_state-plan n stream m (state_reply n.sessions stream)

on-plan : (stream : ℕ) (x : Heard) (m : Message) → (hear_on stream x m).node.plan ≡ x.node.plan
on-plan stream x m = if_heard-plan x.is_open (hear x.node stream m) x x.node.plan (hear-plan x.node stream m) refl

pub hear_all-plan : (stream : ℕ) (ms : List Message) (x : Heard) → (hear_all stream ms x).node.plan ≡ x.node.plan
unfolding hear_all
hear_all-plan stream [] x = refl
hear_all-plan stream (m ∷ ms) x = hear_all-plan stream ms (hear_on stream x m) ∙ on-plan stream x m

fault-plan : (stream : ℕ) (x : Heard) → (hear_fault stream x).node.plan ≡ x.node.plan
fault-plan stream x = if_heard-plan x.is_open _ x x.node.plan (after_refusal-plan x.node stream) refl

rest-plan : (stream : ℕ) (k : RestKind) (x : Heard) → (hear_rest stream k x).node.plan ≡ x.node.plan
rest-plan stream waiting x = refl
rest-plan stream _ x = fault-plan stream x

-- all messages of a piece, and its rest
pub heard-plan : (n : NodeState) (stream : ℕ) (a : Added) → (heard n stream a).node.plan ≡ n.plan
heard-plan n stream a = rest-plan stream a.kind (hear_all stream a.messages (stays n)) ∙ hear_all-plan stream a.messages (stays n)
