-- Inside: what a delivery makes a node send, made ready before anything changes: what wants memory is done by then.
use Rattle.std.specs.Prelude.{◌≡◌, ◌≤◌, ◌<◌, ℕ, ◌+◌, ◌^◌, ◌==◌, Bool, true, false, not, ◌&&◌, List, length, map, filter, Option, None, Some}
use Rattle.std.specs.Vec.{vec_capacity}
use Rattle.grasp_types.specs.declared.message.Message.{Message}
use Rattle.grasp_types.specs.declared.traffic.Output.{Output}
use Rattle.grasp_types.specs.declared.traffic.Output.TheVariants as output
use Rattle.grasp_model_node.specs.Queue.{Queued, encoding, fits, has_room}
use Rattle.grasp_core.specs.Stands.{QueueStands, StreamsStand}
use Rattle.grasp_model_node.specs.Streams.{StreamsState, is_dialled_out}
use Rattle.grasp_core.specs.declared.streams.Streams.{Streams}
use Rattle.grasp_model_node.specs.declared.way.Way.{Way}

-- a message can be sent on a stream of its own
abbrev pub may_dial : ℕ → Message → List Queued → StreamsState → Bool
may_dial limit m queue streams = (fits limit m && has_room queue 2) && not (is_dialled_out streams)

-- whether it can, for all that the code stands for
abbrev pub MayDial : List Output → Streams → Message → Bool → Type 0
MayDial outputs streams m may = (queue : List Queued) → QueueStands outputs queue → (s : StreamsState) → StreamsStand streams s → may_dial streams.limit m queue s ≡ may

-- the message can be sent on a stream of its own, these bytes are its encoding, and there is room for the outputs
pub record Dials (outputs : List Output) (streams : Streams) (m : Message) (bytes : List ℕ) : Type 0 where
  pub may : MayDial outputs streams m true
  pub bytes_are : bytes ≡ encoding m
  pub room : length outputs + 2 ≤ 256
  pub dialled : streams.dialled < 2 ^ 62

-- the message is ready to be sent on a stream of its own, or it is lost
abbrev pub DialReady : List Output → Streams → Message → Option (List ℕ) → Type 0
DialReady outputs streams m None = MayDial outputs streams m false
DialReady outputs streams m (Some bytes) = Dials outputs streams m bytes

-- there is memory for the record of one more stream
abbrev pub HasPlace : Streams → Type 0
HasPlace streams = length streams.held.items + 1 ≤ vec_capacity streams.held

-- there is memory for the record of one more stream, where one is to be made
abbrev pub PlaceReady : Streams → Option (List ℕ) → Type 0
PlaceReady streams None = Unit {0}
PlaceReady streams (Some bytes) = HasPlace streams

-- the ways to all neighbours of other links
abbrev pub others : ℕ → List Way → List Way
others link ways = filter (λ way. not (way.link == link)) ways

-- a message can be sent along so many ways
abbrev pub may_relay : ℕ → Message → ℕ → List Queued → Bool
may_relay limit m count queue = fits limit m && has_room queue count

-- whether it can, for all that the code stands for
abbrev pub MayRelay : List Output → ℕ → ℕ → Message → Bool → Type 0
MayRelay outputs limit count m may = (queue : List Queued) → QueueStands outputs queue → may_relay limit m count queue ≡ may

-- the message can be sent along the ways to other links, these are the outputs for it, and there is room for them
pub record Relays (outputs : List Output) (streams : Streams) (ways : List Way) (link : ℕ) (m : Message) (added : List Output) : Type 0 where
  pub may : MayRelay outputs streams.limit (length (others link ways)) m true
  pub added_are : added ≡ map (λ way. output.Datagram way.link way.to (encoding m)) (others link ways)
  pub room : length outputs + length added ≤ 256

-- the message is ready to be relayed, or it is lost
abbrev pub RelayReady : List Output → Streams → List Way → ℕ → Message → Option (List Output) → Type 0
RelayReady outputs streams ways link m None = MayRelay outputs streams.limit (length (others link ways)) m false
RelayReady outputs streams ways link m (Some added) = Relays outputs streams ways link m added
