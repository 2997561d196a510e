-- What is cut of the bytes that come on a stream: the first messages that the other side said (RFC 8990, section 2.8).
use Rattle.std.specs.Prelude.{◌≡◌, ◌<◌, ◌^◌, ◌++◌, ℕ, Bool, All, List, Some, take}
use Rattle.grasp_model_node.specs.Begin.{begin}
use Rattle.grasp_model_node.specs.Bytes.{Added, Adds}
use Rattle.grasp_model_node.specs.Streams.{past_of}
use Rattle.grasp_session.specs.Messages.{Side, other}
use Rattle.grasp_types.specs.declared.message.Message.{Message}
use Rattle.grasp_wire.specs.Cutter.{Past}
use Rattle.grasp_wire.specs.Laws.{encoded, IsSendable}
use Rattle.grasp_wire.specs.Stream.{Divides, RestKind, waiting}
use Rattle.grasp_model_network.specs.Events.{visit_of}
use Rattle.grasp_laws_network.specs.Keeping.{IsLonger}
use Rattle.grasp_model_network.specs.StreamChanges.{Reached, reached_side, side_named}
use Rattle.grasp_model_network.specs.Runs.{IsReached}
use Rattle.grasp_model_network.specs.Setting.{Setting}
use Rattle.grasp_model_network.specs.Streams.{StreamState, end_at, sent_by, next_bytes}
use Rattle.grasp_model_network.specs.Visits.{Visit, Choice, VisitStep}
use Rattle.grasp_model_network.specs.World.{Seat, WorldState, seat_at, end_of}
use Rattle.grasp_model_network.specs.declared.event.Event.TheVariants as event
use Rattle.grasp_laws_delivery.specs.Records.{HasCome}
use Rattle.grasp_laws_delivery.specs.Saying.{OfEachStream}

-- the first so many bytes of messages that can be sent are cut into the first of these messages and a waiting rest, and in no other way
pub record IsCutInFront (messages given : List Message) (kind : RestKind) : Type 0 where
  pub given_first : IsLonger given messages
  pub waits : kind ≡ waiting

abbrev pub FrontsAreCut : Type 0
FrontsAreCut = (limit n : ℕ) (messages given : List Message) (rest : List ℕ) (kind : RestKind) → 0 < limit → limit < 2 ^ 64 → All (IsSendable limit) messages
    → Divides (take n (encoded messages)) limit given rest kind → IsCutInFront messages given kind

-- A piece that comes at a side on an open stream, with what came before it: the messages that it adds are the next ones that the other
-- side sent, and no fault stands behind them.
abbrev pub PiecesAdd : Type 0
PiecesAdd = (limit count : ℕ) (t : StreamState) (side : Side) (past : Past) (a : Added) → 0 < limit → limit < 2 ^ 64 → All (IsSendable limit) (sent_by t (other side)).sent
    → HasCome t side past → Adds limit past (next_bytes t (other side) count) a → IsCutInFront (sent_by t (other side)).sent (past.given ++ a.messages) a.kind

-- What an open stream of a node was given is the first that the other side of its stream sent, and so it is with what a piece adds that
-- comes there, behind which no fault stands.
pub record WhatWasSaidIsGiven : Type 0 where
  pub given : (s : Setting) (w : WorldState) → IsReached s w → (node : ℕ) (seat : Seat) → seat_at w node ≡ Some seat
      → (stream : ℕ) (past : Past) → past_of seat.core.streams stream ≡ Some past
      → OfEachStream (λ t. (side : Side) → end_at t side ≡ Some (end_of node stream) → IsLonger past.given (sent_by t (other side)).sent) w.streams
  pub added : (s : Setting) (w : WorldState) → IsReached s w → (k count : ℕ) (far hold : Bool) (x : Reached) (v : Visit) (c : Choice)
      → reached_side w k (side_named far) ≡ Some x → visit_of s w (event.Bytes k far count hold) ≡ Some v → VisitStep v c
      → (past : Past) → past_of (begin v.seat.core v.now).streams x.at.number ≡ Some past
      → IsCutInFront (sent_by x.talk (other (side_named far))).sent (past.given ++ c.coming.added.messages) c.coming.added.kind
