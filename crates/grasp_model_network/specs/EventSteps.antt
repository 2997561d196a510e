-- The step of a node that each event makes, and the network after it.
use Rattle.std.specs.Prelude.{ℕ, Bool, true, false, Option, None, Some, if◌then◌else◌, List, [], ◌∷◌, ◌++◌, Ok, Result, length}
use Rattle.grasp_session.specs.Messages.{Side, other}
use Rattle.grasp_model_network.specs.Sending.{stepped, gained}
use Rattle.grasp_model_network.specs.Streams.{StreamState, next_bytes, stream_numbered, is_waiting}
use Rattle.grasp_model_network.specs.Visits.{Visit, Choice, visit, visit_seat}
use Rattle.grasp_model_network.specs.World.{WorldState, SentDatagram, DiscoveryAnswer, Seat, present_life, member_of, seat_at}
use Rattle.grasp_model_network.specs.StreamChanges.{Reached, reached_side, arrived, delivered, told}
use Rattle.grasp_model_network.specs.Setting.{Setting, numbered, member_at}
use Rattle.std.specs.List.{list_any}
use Rattle.grasp_asa.specs.Answers.{flags_registered}
use Rattle.grasp_model_node.specs.Queue.{Queued, datagram, dial, send, encoding}
use Rattle.grasp_types.specs.declared.message.Answer.{Answer}
use Rattle.grasp_types.specs.declared.message.Answer.TheVariants.{Locators, Divert}
use Rattle.grasp_types.specs.declared.message.Message.{Message}
use Rattle.grasp_types.specs.declared.message.Message.TheVariants.{Discovery, Response}
use Rattle.grasp_agent.specs.Calls.{next_call}
use Rattle.grasp_agent.specs.Replies.{after_reply, want_reply, return_reply}
use Rattle.grasp_agent.specs.States.{AgentState}
use Rattle.grasp_types.specs.declared.traffic.Input.{Input}
use Rattle.grasp_model_network.specs.Notes.{noted}
use Rattle.grasp_model_network.specs.Offers.{offers_after}
use Rattle.grasp_types.specs.declared.call.Call.{Call}
use Rattle.grasp_agent.specs.declared.back.ReturnFault.{ReturnFault}
use Rattle.grasp_agent.specs.declared.want.WantFault.{WantFault}
use Rattle.grasp_types.specs.Prefix.{AddressBlock as Prefix}
use Rattle.grasp_model_node.specs.Begin.{begin}
use Rattle.grasp_types.specs.declared.traffic.Input.TheVariants as input
use Rattle.grasp_model_node.specs.Draining as core

-- ---- bytes of a stream that are delivered to one of its sides, in order

abbrev pub piece_at : WorldState → Side → ℕ → Option Reached → Option Visit
piece_at w side count None = None
piece_at w side count (Some x) = visit w x.at.node (input.Bytes x.at.number (next_bytes x.talk (other side) count))

-- the next so many bytes that the other side sent, or all that are left, come in at this side
unfoldable pub piece_visit : WorldState → ℕ → Side → ℕ → Option Visit
piece_visit w k side count = piece_at w side count (reached_side w k side)

unfoldable pub after_piece : WorldState → Visit → ℕ → Side → ℕ → Choice → WorldState
after_piece w v k side count c = stepped (delivered w count (reached_side w k side)) v c.after v.seat.agent

-- ---- a side of a stream that is told that the stream is closed, and gets nothing more

abbrev pub cut_at : WorldState → Option Reached → Option Visit
cut_at w None = None
cut_at w (Some x) = visit w x.at.node (input.Closed x.at.number)

unfoldable pub cut_visit : WorldState → ℕ → Side → Option Visit
cut_visit w k side = cut_at w (reached_side w k side)

unfoldable pub after_cut : WorldState → Visit → ℕ → Side → Choice → WorldState
after_cut w v k side c = stepped (told w (reached_side w k side)) v c.after v.seat.agent

-- ---- streams that are opened at the node that was dialled (RFC 8990, section 2.5.5)

abbrev pub opened_at : Setting → WorldState → ℕ → Option ℕ → Option Seat → Option Visit
opened_at s w k None near = None
opened_at s w k (Some node) None = None
opened_at s w k (Some node) (Some near) = visit w (present_life w node) (input.Opened (s.arrives_as (present_life w node) k) (s.arrives_from k near.core.plan.address))

abbrev pub opened_stream : Setting → WorldState → ℕ → Option StreamState → Option Visit
opened_stream s w k None = None
opened_stream s w k (Some t) = if is_waiting t.far_side then opened_at s w k (member_at s t.to) (seat_at w t.near.node) else None

-- the stream is opened at the present life of the member that listens where it was dialled to. There is no step where there is no such stream,
-- where it was opened already or its far side was told that it is closed, and where no member listens there
unfoldable pub arrival_visit : Setting → WorldState → ℕ → Option Visit
arrival_visit s w k = opened_stream s w k (stream_numbered w.streams k)

unfoldable pub after_arrival : Setting → WorldState → Visit → ℕ → Choice → WorldState
after_arrival s w v k c = stepped (arrived w v (s.arrives_as v.node k) c.reply (stream_numbered w.streams k)) v c.after v.seat.agent

-- ---- datagrams that are delivered, once, again or never, in any order (RFC 8990, sections 2.5.4 and 2.5.6.2)

abbrev pub datagram_at : WorldState → Option SentDatagram → Option Visit
datagram_at w None = None
datagram_at w (Some d) = visit w (present_life w d.route.receiver) (input.Datagram d.route.link d.route.from (encoding d.message))

-- the datagram of this number comes in at its receiver's present life; there is no step where there is no such datagram
unfoldable pub datagram_visit : WorldState → ℕ → Option Visit
datagram_visit w index = datagram_at w (numbered w.datagrams index)

-- ---- discoveries that are answered

abbrev pub is_own : Answer → Bool
is_own (Locators locators) = true
is_own (Divert locators) = false

abbrev pub is_own_response : Message → Bool
is_own_response (Response session initiator ttl answer o) = is_own answer
is_own_response _ = false

abbrev pub is_own_answer : Queued → Bool
is_own_answer (datagram link to m) = false
is_own_answer (dial stream to) = false
is_own_answer (send stream m) = is_own_response m

-- what is looked for, with the flags that the node has registered
abbrev pub answers_to : ℕ → Visit → Message → List DiscoveryAnswer
answers_to member v (Discovery session initiator o) =
    record { node = member; objective = o; flags = flags_registered v.seat.core.registrations o.name } ∷ []
answers_to member v _ = []

abbrev pub answered_with : ℕ → Visit → Choice → Option SentDatagram → List DiscoveryAnswer
answered_with member v c None = []
answered_with member v c (Some d) = if list_any is_own_answer (gained v.seat.core c.after) then answers_to member v d.message else []

-- a discovery is answered where the step has queued a response with the node's own locator
unfoldable pub answers_in : WorldState → Visit → ℕ → Choice → List DiscoveryAnswer
answers_in w v index c = answered_with (member_of w v.node) v c (numbered w.datagrams index)

unfoldable pub after_delivery : WorldState → Visit → ℕ → Choice → WorldState
after_delivery w v index c = record (stepped w v c.after v.seat.agent) { answers = w.answers ++ answers_in w v index c }

-- ---- the next call of a node's agent of prefixes, and its reply (RFC 8992, section 4)

-- the agent makes its next call, as the agent that it is
abbrev pub agent_input : AgentState → Input
agent_input a = input.Api a.asa (next_call a)

abbrev pub agent_seat : ℕ → Option Seat → Option Visit
agent_seat node None = None
agent_seat node (Some seat) = visit_seat node (agent_input seat.agent) (Some seat)

unfoldable pub agent_visit : WorldState → ℕ → Option Visit
agent_visit w node = agent_seat node (seat_at w node)

-- the network after the step, which leaves this agent
abbrev pub replied : WorldState → Visit → Choice → AgentState → WorldState
replied w v c agent = record (noted (stepped w v c.after agent) v v.seat.agent.asa (next_call v.seat.agent) c.reply) { offers = offers_after (stepped w v c.after agent).streams w v c.after agent }

-- the agent takes the reply
unfoldable pub after_agent : WorldState → Visit → Choice → WorldState
after_agent w v c = replied w v c (after_reply v.seat.agent c.reply)

-- ---- calls of the other agents of a node (RFC 8991, section 2.3)

abbrev pub call_visit : WorldState → ℕ → ℕ → Call → Option Visit
call_visit w node asa c = visit w node (input.Api asa c)

unfoldable pub after_agent_call : WorldState → Visit → ℕ → Call → Choice → WorldState
after_agent_call w v asa call c = noted (stepped w v c.after v.seat.agent) v asa call c.reply

-- ---- a clock: the node steps with a drain of nothing, at the reading that the clock shows or at its own, whichever is larger

abbrev pub clock_seat : ℕ → ℕ → Option Seat → Option Visit
clock_seat node millis None = None
clock_seat node millis (Some seat) = Some (record { node = node; seat = seat; now = millis; input = input.Drain 0 })

abbrev pub clock_visit : WorldState → ℕ → ℕ → Option Visit
clock_visit w node millis = clock_seat node millis (seat_at w node)

unfoldable pub after_clock : WorldState → Visit → Choice → WorldState
after_clock w v c = stepped w v c.after v.seat.agent

-- ---- a want: the agent takes it where it has none and has room for the prefix (RFC 8992, section 4.1). It is no step of the node

abbrev pub want_answer : Option Seat → Result (Unit {0}) WantFault
want_answer None = Ok tt
want_answer (Some seat) = want_reply seat.agent

-- whether the agent takes it
abbrev pub wanting_reply : WorldState → ℕ → Result (Unit {0}) WantFault
wanting_reply w node = want_answer (seat_at w node)

-- ---- a return: the agent takes it where it has none, the prefix is all free and the pool has room for its pieces. It is no step of the node

abbrev pub return_answer : Prefix → Option Seat → Result (Unit {0}) ReturnFault
return_answer p None = Ok tt
return_answer p (Some seat) = return_reply seat.agent p

-- whether the agent takes it
abbrev pub returning_reply : WorldState → ℕ → Prefix → Result (Unit {0}) ReturnFault
returning_reply w node p = return_answer p (seat_at w node)

-- ---- outputs of a node that are sent

-- so many outputs, or all that there are, go out; what the step gives is sent
abbrev pub drain_visit : WorldState → ℕ → ℕ → Option Visit
drain_visit w node max = visit w node (input.Drain max)

-- how many outputs are sent
unfoldable pub sent_count : Visit → ℕ → ℕ
sent_count v max = length (core.drained (begin v.seat.core v.now) max)
