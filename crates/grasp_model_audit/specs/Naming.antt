-- Which event of a network a line of a record names.
use Rattle.std.specs.Prelude.{◌≡◌, ℕ, ◌+◌, ◌/◌, ◌==◌, ◌&&◌, nat_lt, if◌then◌else◌, Bool, true, false, List, [], ◌∷◌, length, Option, None, Some, find, position, bytes_eq}
use Rattle.grasp_agent.specs.Calls.{next_call}
use Rattle.grasp_model_node.specs.Queue.{encoding}
use Rattle.grasp_session.specs.Messages.{Side, Near, Far}
use Rattle.grasp_types.specs.Same.{same_address}
use Rattle.grasp_types.specs.declared.call.Call.{Call}
use Rattle.grasp_types.specs.declared.traffic.Input.{Input}
use Rattle.grasp_types.specs.declared.traffic.Input.TheVariants as input
use Rattle.grasp_model_network.specs.Events.{visit_of}
use Rattle.grasp_model_network.specs.Setting.{Setting, counted_from_1}
use Rattle.grasp_model_network.specs.Streams.{StreamEnd, StreamState, has_end, side_of_end}
use Rattle.grasp_model_network.specs.Visits.{Visit}
use Rattle.grasp_model_network.specs.World.{Seat, SentDatagram, WorldState, end_of, present_life, seat_at}
use Rattle.grasp_model_network.specs.declared.event.Event.{Event}
use Rattle.grasp_model_network.specs.declared.event.Event.TheVariants as event
use Rattle.grasp_script.specs.Calls.{call_words}
use Rattle.grasp_model_script.specs.LineRuns.{placed_call}
use Rattle.grasp_record.specs.declared.line.RecordInput.{RecordInput}
use Rattle.grasp_record.specs.declared.line.RecordInput.TheVariants as took
use Rattle.grasp_record.specs.declared.line.RecordLine.{RecordLine}

-- ---- datagrams

-- the datagram was sent to this node, which gets it on this link from this neighbour, and has these bytes
abbrev pub is_datagram : ℕ → ℕ → ℕ → List ℕ → SentDatagram → Bool
is_datagram node link from bytes d = d.route.receiver == node && d.route.link == link && d.route.from == from && bytes_eq (encoding d.message) bytes

abbrev pub datagram_numbered : Option ℕ → Option Event
datagram_numbered None = None
datagram_numbered (Some index) = Some (event.Datagram index true)

-- the delivery of the first one that was sent so
abbrev pub datagram_event : WorldState → ℕ → ℕ → ℕ → List ℕ → Option Event
datagram_event w node link from bytes = datagram_numbered (counted_from_1 (position (is_datagram node link from bytes) w.datagrams))

-- ---- streams

-- a side of a stream: the stream's number among the dials that were sent, and whether it is the side of the node that was dialled
pub record NamedSide : Type 0 where
  pub stream : ℕ
  pub far : Bool

abbrev pub is_far : Side → Bool
is_far Near = false
is_far Far = true

abbrev pub side_numbered : Option ℕ → Option Side → Option NamedSide
side_numbered (Some k) (Some side) = Some (record { stream = k; far = is_far side })
side_numbered (Some k) None = None
side_numbered None side = None

abbrev pub side_in : StreamEnd → Option StreamState → Option NamedSide
side_in e None = None
side_in e (Some t) = side_numbered t.number (side_of_end e t)

-- the side of a stream that has this number at the node, in its present life; none where the dial wasn't sent yet
abbrev pub side_with : WorldState → ℕ → ℕ → Option NamedSide
side_with w node number = side_in (end_of (present_life w node) number) (find (has_end (end_of (present_life w node) number)) w.streams)

-- the delivery of so many bytes to the side
abbrev pub bytes_event : ℕ → Option NamedSide → Option Event
bytes_event count None = None
bytes_event count (Some x) = Some (event.Bytes x.stream x.far count true)

-- the side is told that the stream is closed
abbrev pub closing_event : Option NamedSide → Option Event
closing_event None = None
closing_event (Some x) = Some (event.Cut x.stream x.far true)

-- ---- what comes in

-- this is what the line says that came in on a stream
abbrev pub is_taken : RecordInput → Input → Bool
is_taken (took.Opened stream from) (input.Opened number address) = number == stream && same_address address from
is_taken (took.Bytes stream bytes) (input.Bytes number next) = number == stream && bytes_eq next bytes
is_taken (took.Closed stream) (input.Closed number) = number == stream
is_taken _ _ = false

-- the step is made by the node in its present life, and this comes in
abbrev pub is_brought : WorldState → ℕ → RecordInput → Option Visit → Bool
is_brought w node i None = false
is_brought w node i (Some v) = v.node == present_life w node && is_taken i v.input

-- the event, where it brings to the node what the line says
abbrev pub if_brought : Setting → WorldState → ℕ → RecordInput → Option Event → Option Event
if_brought s w node i None = None
if_brought s w node i (Some e) = if is_brought w node i (visit_of s w e) then Some e else None

-- ---- the event of a line

-- Each is one behind which nothing is sent. A call names a session by its number, whose place is the one that was given with it. The
-- stream that arrives with the number 2K - 1 is the K-th that was dialled. There is none where what the line says that came in from
-- elsewhere wasn't sent there: no such datagram, no dial to the node that waits and has this address, or a stream or side of it that
-- gets nothing, or other bytes next
abbrev pub named_by : Setting → WorldState → ℕ → RecordInput → Option Event
named_by s w node (took.Api asa call) = Some (event.Api node asa (placed_call w (present_life w node) call) true)
named_by s w node (took.Agent call) = Some (event.Agent node true)
named_by s w node (took.Want length longest peer) = Some (event.Want node length longest peer)
named_by s w node (took.Return prefix peer) = Some (event.Return node prefix peer)
named_by s w node (took.Datagram link from bytes) = datagram_event w node link from bytes
named_by s w node (took.Opened stream from) = if_brought s w node (took.Opened stream from) (Some (event.Arrive (stream / 2 + 1) true))
named_by s w node (took.Bytes stream bytes) = if_brought s w node (took.Bytes stream bytes) (bytes_event (length bytes) (side_with w node stream))
named_by s w node (took.Closed stream) = if_brought s w node (took.Closed stream) (closing_event (side_with w node stream))
named_by s w node (took.Drain max) = Some (event.Drain node max)

-- the event that the line names in this network, behind its clock
unfoldable pub event_named : Setting → WorldState → RecordLine → Option Event
event_named s w x = named_by s w x.node x.input

-- ---- its clock

abbrev pub reading_in : Option Seat → ℕ
reading_in None = 0
reading_in (Some seat) = seat.core.reading

-- the reading of a node, in its present life
abbrev pub reading_of : WorldState → ℕ → ℕ
reading_of w node = reading_in (seat_at w (present_life w node))

-- the node's clock shows the line's reading first, where that is later than the node's
abbrev pub clock_before : WorldState → RecordLine → List Event
clock_before w x = if nat_lt (reading_of w x.node) x.now then event.Clock x.node x.now ∷ [] else []

-- ---- the node's own agent

abbrev pub IsNextCall : Call → Option Seat → Type 0
IsNextCall call None = ⊥
IsNextCall call (Some seat) = call_words (next_call seat.agent) ≡ call_words call

-- where the line is a call of the node's own agent, it is in words the one that the agent makes next
abbrev pub IsOfAgent : WorldState → ℕ → RecordInput → Type 0
IsOfAgent w node (took.Agent call) = IsNextCall call (seat_at w (present_life w node))
IsOfAgent w node _ = Unit {0}
