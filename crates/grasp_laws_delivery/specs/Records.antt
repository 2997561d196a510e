-- What came on the open streams of the nodes of a network: what was delivered of what the other side sent (RFC 8990, section 2.8).
use Rattle.std.specs.Prelude.{◌≡◌, ℕ, None, Some, slice_get, take, false}
use Rattle.grasp_model_node.specs.Streams.{past_of}
use Rattle.grasp_session.specs.Messages.{Side, other}
use Rattle.grasp_wire.specs.Cutter.{Past, Waits}
use Rattle.grasp_wire.specs.Laws.{encoded}
use Rattle.grasp_model_network.specs.Runs.{IsReached}
use Rattle.grasp_model_network.specs.Setting.{Setting}
use Rattle.grasp_model_network.specs.Streams.{StreamState, StreamEnd, end_at, side_at, sent_by, is_waiting}
use Rattle.grasp_model_network.specs.World.{Seat, WorldState, seat_at, end_of}
use Rattle.grasp_laws_delivery.specs.Saying.{OfEachStream}

-- the side is there, and what came there, without a fault, is the bytes that were delivered of what the other side sent
pub record HasCome (t : StreamState) (side : Side) (past : Past) : Type 0 where
  pub fed : past.fed ≡ take (sent_by t (other side)).delivered (encoded (sent_by t (other side)).sent)
  pub fault : past.fault ≡ None
  pub there : is_waiting (side_at t side) ≡ false

-- this came at each side of the stream that has this end
abbrev pub HasComeAt : StreamEnd → Past → StreamState → Type 0
HasComeAt e past t = (side : Side) → end_at t side ≡ Some e → HasCome t side past

-- a side of a stream of the network has this end
pub record HasStream (w : WorldState) (e : StreamEnd) : Type 0 where
  pub place : ℕ
  pub talk : StreamState
  pub side : Side
  pub stands : slice_get w.streams place ≡ Some talk
  pub ends : end_at talk side ≡ Some e

-- an open stream of a node is one of the network, on which this came, divided into the messages that were given and a rest that waits
pub record IsOpenStream (w : WorldState) (e : StreamEnd) (limit : ℕ) (past : Past) : Type 0 where
  pub stream : HasStream w e
  pub came : OfEachStream (HasComeAt e past) w.streams
  pub waits : Waits limit past

-- each open stream of each node of a network that turns lead to is a stream of the network, and holds what came on it
abbrev pub RecordsHoldWhatCame : Type 0
RecordsHoldWhatCame = (s : Setting) (w : WorldState) → IsReached s w → (node : ℕ) (seat : Seat) → seat_at w node ≡ Some seat
    → (stream : ℕ) (past : Past) → past_of seat.core.streams stream ≡ Some past → IsOpenStream w (end_of node stream) seat.core.plan.limit past
