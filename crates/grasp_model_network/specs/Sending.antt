-- What a node makes and queues, and what is sent of it.
use Rattle.std.specs.Prelude.{ℕ, ◌+◌, ◌-◌, ◌*◌, List, [], ◌∷◌, ◌++◌, Option, None, Some, fold, length, drop, take, slice_set}
use Rattle.grasp_agent.specs.States.{AgentState}
use Rattle.grasp_model_node.specs.Begin.{begin}
use Rattle.grasp_model_node.specs.Draining.{closes, after_drain}
use Rattle.grasp_model_node.specs.Node.{NodeState}
use Rattle.grasp_model_node.specs.Queue.{Queued, datagram, dial, send, encoding}
use Rattle.grasp_types.specs.declared.message.Message.{Message}
use Rattle.grasp_model_network.specs.Routes.{Route, route_of}
use Rattle.grasp_model_network.specs.Setting.{Setting}
use Rattle.grasp_model_network.specs.Streams.{StreamState, StreamEnd, fresh_stream, change_at_end, count_at_end, with_said, with_sent, with_ended, with_number}
use Rattle.grasp_model_network.specs.Visits.{Visit}
use Rattle.grasp_model_network.specs.World.{Seat, WorldState, seat_at, with_seat, end_of, member_of}

-- ---- what a step makes

-- what a step has queued
abbrev pub gained : NodeState → NodeState → List Queued
gained before after = drop (length before.queue) after.queue

-- a stream is there from the step on that queues its dial, and a message is said by the step that queues it
abbrev pub having_made : ℕ → List StreamState → Queued → List StreamState
having_made node ts (datagram link to m) = ts
having_made node ts (dial stream to) = ts ++ fresh_stream (end_of node stream) to ∷ []
having_made node ts (send stream m) = change_at_end ts (end_of node stream) (with_said m)

unfoldable pub streams_made : ℕ → List StreamState → List Queued → List StreamState
streams_made node ts queued = fold (having_made node) ts queued

-- the node and its agent in this life
abbrev pub seat_with : NodeState → AgentState → Seat
seat_with core agent = record { core = core; agent = agent }

-- the network after a step: the node and its agent are these now, and what the step has queued was made
unfoldable pub stepped : WorldState → Visit → NodeState → AgentState → WorldState
stepped w v core agent = record w {
  seats = slice_set w.seats (v.node - 1) (seat_with core agent);
  streams = streams_made v.node w.streams (gained v.seat.core core);
}

-- ---- what is sent

-- a datagram joins those that were sent, where there is a way for it
abbrev pub posted : WorldState → Message → Option Route → WorldState
posted w m None = w
posted w m (Some route) = record w { datagrams = w.datagrams ++ record { route = route; message = m } ∷ []; byte_count = w.byte_count + length (encoding m) }

-- a dial gives its stream the next number
abbrev pub dialled : WorldState → StreamEnd → WorldState
dialled w e = record w { streams = change_at_end w.streams e (with_number (w.dials + 1)); dials = w.dials + 1 }

-- a message joins what the side with this end sent
abbrev pub sent_at : WorldState → StreamEnd → Message → WorldState
sent_at w e m = record w {
  streams = change_at_end w.streams e (with_sent m);
  byte_count = w.byte_count + count_at_end w.streams e * length (encoding m);
}

-- what is sent of the queue: a datagram goes the way of the life's member
abbrev pub having_sent : Setting → ℕ → WorldState → Queued → WorldState
having_sent s node w (datagram link to m) = posted w m (route_of s (member_of w node) link to)
having_sent s node w (dial stream to) = dialled w (end_of node stream)
having_sent s node w (send stream m) = sent_at w (end_of node stream) m

-- a closing ends the node's direction of the stream
abbrev pub having_closed : ℕ → WorldState → ℕ → WorldState
having_closed node w stream = record w { streams = change_at_end w.streams (end_of node stream) with_ended }

-- the network once a node has sent these outputs, in order, and then the closings of these streams
unfoldable pub handed_over : Setting → WorldState → ℕ → List Queued → List ℕ → WorldState
handed_over s w node queued streams = fold (having_closed node) (fold (having_sent s node) w queued) streams

-- ---- drains

-- the network after a drain of so many outputs of this node, whose step has begun
abbrev pub drained_from : Setting → WorldState → ℕ → Seat → NodeState → ℕ → WorldState
drained_from s w node seat n max = handed_over s (with_seat w node (seat_with (after_drain n max) seat.agent)) node (take max n.queue) (closes n max)

abbrev pub drained_at : Setting → WorldState → ℕ → ℕ → Option Seat → WorldState
drained_at s w node max None = w
drained_at s w node max (Some seat) = drained_from s w node seat (begin seat.core seat.core.reading) max

-- the network after a drain of so many outputs of a node, at the node's own reading
unfoldable pub drained : Setting → WorldState → ℕ → ℕ → WorldState
drained s w node max = drained_at s w node max (seat_at w node)

-- how many outputs an event's own drain sends at most
abbrev pub event_drain : ℕ
event_drain = 256
