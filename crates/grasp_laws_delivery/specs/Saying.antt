-- What the sides of streams said: it was sent, or is queued (RFC 8990, section 2.8).
use Rattle.std.specs.Prelude.{◌≡◌, ◌≤◌, ℕ, ◌==◌, List, [], ◌∷◌, ◌++◌, None, Some, length, reverse, slice_get, if◌then◌else◌}
use Rattle.grasp_model_node.specs.Queue.{Queued, datagram, dial, send}
use Rattle.grasp_session.specs.Conversation.{spoken}
use Rattle.grasp_session.specs.Messages.{Side, Far}
use Rattle.grasp_types.specs.declared.message.Message.{Message}
use Rattle.grasp_wire.specs.Laws.{encoded}
use Rattle.grasp_model_network.specs.Runs.{IsReached}
use Rattle.grasp_model_network.specs.Setting.{Setting}
use Rattle.grasp_model_network.specs.Streams.{StreamState, end_at, sent_by}
use Rattle.grasp_model_network.specs.World.{Seat, WorldState, seat_at, end_of}

-- the property holds of each stream of a network
abbrev pub OfEachStream : (StreamState → Type 0) → List StreamState → Type 0
OfEachStream P ts = (place : ℕ) (t : StreamState) → slice_get ts place ≡ Some t → P t

-- the messages that are queued for a stream, oldest first
abbrev pub queued_for : ℕ → List Queued → List Message
queued_for stream [] = []
queued_for stream (datagram link to m ∷ qs) = queued_for stream qs
queued_for stream (dial other to ∷ qs) = queued_for stream qs
queued_for stream (send other m ∷ qs) = if other == stream then m ∷ queued_for stream qs else queued_for stream qs

-- what a side said, oldest first
abbrev pub said_by : StreamState → Side → List Message
said_by t side = reverse (spoken side t.said)

-- a side whose end is this stream of a node, as the node stands now, said what it sent, and then what is queued there for the stream
abbrev pub IsSentOrQueued : ℕ → Seat → StreamState → Type 0
IsSentOrQueued node seat t = (side : Side) (stream : ℕ) → end_at t side ≡ Some (end_of node stream)
    → said_by t side ≡ (sent_by t side).sent ++ queued_for stream seat.core.queue

-- a side that isn't there yet said nothing and sent nothing, and nothing came there
pub record SaysNothingUnopened (t : StreamState) : Type 0 where
  pub said : t.far ≡ None → said_by t Far ≡ []
  pub sent : t.far ≡ None → t.from_far.sent ≡ []
  pub came : t.far ≡ None → t.from_near.delivered ≡ 0

-- of what a side sent no more than all of it was delivered
abbrev pub IsDeliveredWithin : StreamState → Type 0
IsDeliveredWithin t = (side : Side) → (sent_by t side).delivered ≤ length (encoded (sent_by t side).sent)

-- in every network that turns lead to, what a side said was sent, or is queued at its node
pub record SaidIsSentOrQueued : Type 0 where
  pub said : (s : Setting) (w : WorldState) → IsReached s w → (node : ℕ) (seat : Seat) → seat_at w node ≡ Some seat → OfEachStream (IsSentOrQueued node seat) w.streams
  pub unopened : (s : Setting) (w : WorldState) → IsReached s w → OfEachStream SaysNothingUnopened w.streams
  pub within : (s : Setting) (w : WorldState) → IsReached s w → OfEachStream IsDeliveredWithin w.streams
