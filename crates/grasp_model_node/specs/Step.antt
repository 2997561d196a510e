-- One step of a node: what it replies to an input at a reading, and the node after it.
use Rattle.std.specs.Prelude.{◌≡◌, ◌≤◌, ℕ, Option, None, Some, List, length, Result, Ok, Err}
use Rattle.grasp_types.specs.declared.call.Call.{Call}
use Rattle.grasp_types.specs.declared.call.Call.TheVariants.{RegisterAsa, DeregisterAsa, RegisterObjective, DeregisterObjective, Discover, RequestNegotiate, ListenNegotiate, StopListenNegotiate, NegotiateStep, NegotiateWait, EndNegotiate, SendInvalid, Poll, Synchronize, ListenSynchronize, StopListenSynchronize, Flood, GetFlood, ExpireFlood}
use Rattle.grasp_types.specs.declared.message.Message.{Message}
use Rattle.grasp_types.specs.declared.refusal.ApiRefused.{ApiRefused}
use Rattle.grasp_types.specs.declared.reply.ApiAnswer.{ApiAnswer}
use Rattle.grasp_types.specs.declared.reply.Reply.{Reply}
use Rattle.grasp_types.specs.declared.reply.Reply.TheVariants as reply
use Rattle.grasp_types.specs.declared.traffic.Input.{Input}
use Rattle.grasp_types.specs.declared.traffic.Input.TheVariants as input
use Rattle.grasp_model_node.specs.Begin.{begin}
use Rattle.grasp_model_node.specs.Bytes.{Added, AddsOn, after_bytes, StarvesAt, after_closed}
use Rattle.grasp_model_node.specs.Datagrams.{Carries, after_datagram}
use Rattle.grasp_model_node.specs.Draining.{drained, after_drain}
use Rattle.grasp_model_node.specs.FloodCalls.{MayDiscover, after_discovering, MayFlood, after_flooding, MayGet, MayExpire, after_expiring}
use Rattle.grasp_model_node.specs.Node.{NodeState}
use Rattle.grasp_model_node.specs.Opening.{MayOpen, after_opened}
use Rattle.grasp_model_node.specs.RegistryCalls.{MayRegisterAsa, after_registering_asa, MayDeregisterAsa, after_deregistering_asa, MayRegisterObjective, after_registering_objective, MayDeregisterObjective, after_deregistering_objective, MayStopListening, after_stopping, MayOffer, after_offering}
use Rattle.grasp_model_node.specs.SessionCalls.{MayStep, after_step, MayWait, after_wait, MayEnd, after_end, MayInvalid, after_invalid, MayPollNode, after_polling, MayListen, after_listening, MayRequest, after_request, MaySynchronize, after_synchronizing}
use Rattle.grasp_model_node.specs.Streams.{past_of}

-- what a call of an agent may be answered
abbrev pub MayCall : NodeState → ℕ → Call → Result ApiAnswer ApiRefused → Type 0
MayCall n asa (RegisterAsa name) result = MayRegisterAsa n name result
MayCall n asa DeregisterAsa result = MayDeregisterAsa n asa result
MayCall n asa (RegisterObjective name flags) result = MayRegisterObjective n asa name flags result
MayCall n asa (DeregisterObjective name) result = MayDeregisterObjective n asa name result
MayCall n asa (Discover name kind loops timeout) result = MayDiscover n asa name kind loops result
MayCall n asa (RequestNegotiate name value loops timeout dry peer) result = MayRequest n asa name value loops dry peer result
MayCall n asa (ListenNegotiate name) result = MayListen n asa name result
MayCall n asa (StopListenNegotiate name) result = MayStopListening n asa name result
MayCall n asa (NegotiateStep handle value) result = MayStep n asa handle value result
MayCall n asa (NegotiateWait handle millis) result = MayWait n asa handle result
MayCall n asa (EndNegotiate handle verdict) result = MayEnd n asa handle verdict result
MayCall n asa (SendInvalid handle detail) result = MayInvalid n asa handle detail result
MayCall n asa (Poll handle) result = MayPollNode n asa handle result
MayCall n asa (Synchronize name loops timeout peer) result = MaySynchronize n asa name loops peer result
MayCall n asa (ListenSynchronize name value) result = MayOffer n asa name result
MayCall n asa (StopListenSynchronize name) result = MayOffer n asa name result
MayCall n asa (Flood name value ttl loops) result = MayFlood n asa name value ttl loops result
MayCall n asa (GetFlood name) result = MayGet n asa name result
MayCall n asa (ExpireFlood name initiator) result = MayExpire n asa name initiator result

-- the node after a call with this answer
abbrev pub after_call : NodeState → ℕ → Call → Result ApiAnswer ApiRefused → NodeState
after_call n asa (RegisterAsa name) result = after_registering_asa n name result
after_call n asa DeregisterAsa result = after_deregistering_asa n asa result
after_call n asa (RegisterObjective name flags) result = after_registering_objective n asa name flags result
after_call n asa (DeregisterObjective name) result = after_deregistering_objective n asa name result
after_call n asa (Discover name kind loops timeout) result = after_discovering n asa name kind loops timeout result
after_call n asa (RequestNegotiate name value loops timeout dry peer) result = after_request n asa name value loops timeout dry peer result
after_call n asa (ListenNegotiate name) result = after_listening n asa name result
after_call n asa (StopListenNegotiate name) result = after_stopping n asa name result
after_call n asa (NegotiateStep handle value) result = after_step n handle value result
after_call n asa (NegotiateWait handle millis) result = after_wait n handle millis result
after_call n asa (EndNegotiate handle verdict) result = after_end n handle verdict result
after_call n asa (SendInvalid handle detail) result = after_invalid n handle detail result
after_call n asa (Poll handle) result = after_polling n handle result
after_call n asa (Synchronize name loops timeout peer) result = after_synchronizing n asa name loops timeout peer result
after_call n asa (ListenSynchronize name value) result = after_offering n asa name (Some value) result
after_call n asa (StopListenSynchronize name) result = after_offering n asa name None result
after_call n asa (Flood name value ttl loops) result = after_flooding n asa name value ttl loops result
after_call n asa (GetFlood name) result = n
after_call n asa (ExpireFlood name initiator) result = after_expiring n name initiator result

-- What comes with an input, where it is bytes: the messages that they add to their stream, or the message of a datagram.
-- What is read of it is determined by the node and the input, by the one division of a stream.
pub record Coming : Type 0 where
  pub added : Added
  pub carried : Option Message

-- what comes with the input at a node is this
abbrev pub IsComing : NodeState → Input → Coming → Type 0
IsComing n (input.Bytes stream bytes) x = AddsOn n.plan.limit bytes x.added (past_of n.streams stream)
IsComing n (input.Datagram link from bytes) x = Carries n.plan.limit bytes x.carried
IsComing n (input.Api asa call) x = Unit {0}
IsComing n (input.Opened stream from) x = Unit {0}
IsComing n (input.Closed stream) x = Unit {0}
IsComing n (input.Drain max) x = Unit {0}

-- an agent's call is answered or refused
abbrev pub Calls : NodeState → ℕ → Call → Reply → NodeState → Type 0
Calls n asa call (reply.Api answer) after = MayCall n asa call (Ok answer) × (after ≡ after_call n asa call (Ok answer))
Calls n asa call (reply.Refused refused) after = MayCall n asa call (Err refused) × (after ≡ n)
Calls n asa call _ after = ⊥

-- a datagram and a piece of a stream are taken, a drain gives outputs, or there was no memory
abbrev pub TakesDatagram : NodeState → ℕ → ℕ → Coming → Reply → NodeState → Type 0
TakesDatagram n link from x reply.Taken after = after ≡ after_datagram n link from x.carried
TakesDatagram n link from x reply.OutOfMemory after = after ≡ n
TakesDatagram n link from x _ after = ⊥

abbrev pub TakesBytes : NodeState → ℕ → List ℕ → Coming → Reply → NodeState → Type 0
TakesBytes n stream bytes x reply.Taken after = after ≡ after_bytes n stream bytes x.added
TakesBytes n stream bytes x reply.OutOfMemory after = StarvesAt n stream bytes x.added after
TakesBytes n stream bytes x _ after = ⊥

abbrev pub Drains : NodeState → ℕ → Reply → NodeState → Type 0
Drains n max (reply.Outputs outputs) after = (outputs ≡ drained n max) × (after ≡ after_drain n max)
Drains n max reply.OutOfMemory after = (1 ≤ length (drained n max)) × (after ≡ n)
Drains n max _ after = ⊥

-- what an input does at a node whose step has begun
abbrev pub Acts : NodeState → Input → Coming → Reply → NodeState → Type 0
Acts n (input.Api asa call) x r after = Calls n asa call r after
Acts n (input.Datagram link from bytes) x r after = TakesDatagram n link from x r after
Acts n (input.Opened stream from) x r after = MayOpen n stream r × (after ≡ after_opened n stream from r)
Acts n (input.Bytes stream bytes) x r after = TakesBytes n stream bytes x r after
Acts n (input.Closed stream) x r after = (r ≡ reply.Taken) × (after ≡ after_closed n stream)
Acts n (input.Drain max) x r after = Drains n max r after

-- A step with what comes with its input: the beginning at this reading, and then what the input does. It determines the
-- reply and the node after, but for want of memory.
pub record NodeStep (n : NodeState) (now : ℕ) (i : Input) (x : Coming) (r : Reply) (after : NodeState) : Type 0 where
  pub is_coming : IsComing (begin n now) i x
  pub acts : Acts (begin n now) i x r after
