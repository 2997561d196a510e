-- What the code of a network tells and lends: for each network for which it goes on.
use Rattle.std.specs.Prelude.{◌≡◌, ◌↔◌, ◌==◌, ◌&&◌, bytes_eq, position, ℕ, Bool, true, false, if◌then◌else◌, IsTrue, List, [], length, Option, None, Some, Result, Ok, Err, option_map, find}
use Rattle.grasp_model_node.specs.Begin.{begin}
use Rattle.grasp_model_node.specs.Draining.{drained}
use Rattle.grasp_model_node.specs.Queue.{encoding}
use Rattle.grasp_pool.specs.declared.image.PoolImage.{PoolImage}
use Rattle.grasp_session.specs.Messages.{Side, Near, Far, other}
use Rattle.grasp_types.specs.Prefix.{AddressBlock as Prefix}
use Rattle.grasp_types.specs.declared.traffic.Output.{Output}
use Rattle.grasp_model_network.specs.Plans.{IsNode}
use Rattle.grasp_model_network.specs.Restarting.{MayRestart}
use Rattle.grasp_model_network.specs.Setting.{Setting, counted_from_1, member_at, numbered}
use Rattle.grasp_model_network.specs.Settling.{IsDead}
use Rattle.grasp_model_network.specs.StreamChanges.{Reached, reached_side, side_named}
use Rattle.grasp_model_network.specs.Streams.{StreamEnd, StreamState, has_end, is_waiting, next_bytes, side_of_end, stream_numbered}
use Rattle.grasp_model_network.specs.World.{Seat, SentDatagram, WorldState, end_of, member_of, present_life}
use Rattle.grasp_model_network.specs.declared.report.Report.{Report}
use Rattle.grasp_model_network.specs.declared.report.Report.TheVariants as report
use Rattle.grasp_model_network.specs.declared.report.WorldStop.{WorldStop}
use Rattle.grasp_simulator.specs.Contract.{going}
use Rattle.grasp_simulator.specs.WorldStands.{WorldStands, IsSeat, parcel_of}
use Rattle.grasp_simulator.specs.StreamsStand.{Queueing, StreamsStand}
use Rattle.grasp_simulator.specs.declared.parcel.Parcel.{Parcel}
use Rattle.grasp_simulator.specs.declared.streams.Streams.{Streams}
use Rattle.grasp_simulator.specs.declared.world.World.{World}
use Rattle.grasp_simulator.specs.declared.world_arrivals.Waiting.{Waiting}
use Rattle.grasp_simulator.specs.declared.world_lends.SideEnd.{SideEnd}

-- ---- what may be done beside events

-- the code stands for this network, which goes on
abbrev pub StandsFor : World → Setting → WorldState → Type 0
StandsFor code s w = WorldStands code (record { setting = s; standing = going w })

-- and which has a node of this number
pub record AnswersFor (code : World) (node : ℕ) (s : Setting) (w : WorldState) : Type 0 where
  pub stands : StandsFor code s w
  pub is_node : IsNode (length s.members) node

-- whether the prefix may be settled at the node
abbrev pub TellsDead : World → ℕ → Prefix → Bool → Type 0
TellsDead code node p answer = (s : Setting) (w : WorldState) → AnswersFor code node s w → IsTrue answer ↔ IsDead w node p

-- whether the node may begin anew by the image
abbrev pub TellsMayRestart : World → ℕ → PoolImage → Bool → Type 0
TellsMayRestart code node image answer = (s : Setting) (w : WorldState) → AnswersFor code node s w → IsTrue answer ↔ MayRestart s w node image

-- ---- a drain

-- how many outputs were sent
abbrev pub sent_of : Result (List Output) WorldStop → Result Report WorldStop
sent_of (Ok outputs) = Ok (report.Sent (length outputs))
sent_of (Err stop) = Err stop

-- the outputs that the node's present life gave
abbrev pub LendsOutputs : World → ℕ → ℕ → List Output → Type 0
LendsOutputs code node max outputs = (s : Setting) (w : WorldState) (seat : Seat) → IsSeat code node s w seat → outputs ≡ drained (begin seat.core seat.core.reading) max

-- ---- datagrams

-- the datagram of this number
abbrev pub LendsParcel : World → ℕ → Option Parcel → Type 0
LendsParcel code index found = (s : Setting) (w : WorldState) → StandsFor code s w → found ≡ option_map parcel_of (numbered w.datagrams index)

-- Inside: the datagram that the code keeps comes to this node on this link, from this neighbour, with these bytes
abbrev pub is_so : ℕ → ℕ → ℕ → List ℕ → Parcel → Bool
is_so node link from bytes parcel = parcel.receiver == node && parcel.link == link && parcel.from == from && bytes_eq parcel.bytes bytes

-- the datagram comes to this node on this link, from this neighbour, with these bytes
abbrev pub comes_so : ℕ → ℕ → ℕ → List ℕ → SentDatagram → Bool
comes_so node link from bytes d = d.route.receiver == node && d.route.link == link && d.route.from == from && bytes_eq (encoding d.message) bytes

-- the number of the first datagram that comes so
abbrev pub LendsFirst : World → ℕ → ℕ → ℕ → List ℕ → Option ℕ → Type 0
LendsFirst code node link from bytes found = (s : Setting) (w : WorldState) → StandsFor code s w → found ≡ counted_from_1 (position (comes_so node link from bytes) w.datagrams)

-- the datagram is this one, as the code keeps it
abbrev pub IsParcel : Parcel → SentDatagram → Type 0
IsParcel parcel d = parcel_of d ≡ parcel

-- ---- streams

abbrev pub side_lent : WorldState → Option Reached → Option SideEnd
side_lent w None = None
side_lent w (Some x) = Some (record { node = member_of w x.at.node; number = x.at.number })

-- the node whose side of the stream of this number it is, and the number that the stream has there, where what comes is delivered to it
abbrev pub LendsSide : World → ℕ → Bool → Option SideEnd → Type 0
LendsSide code k far found = (s : Setting) (w : WorldState) → StandsFor code s w → found ≡ side_lent w (reached_side w k (side_named far))

abbrev pub next_from : Option StreamState → Side → ℕ → List ℕ
next_from None side count = []
next_from (Some t) side count = next_bytes t (other side) count

-- the next so many bytes of the stream of this number that the other side sent, or all that are left
abbrev pub LendsNext : World → ℕ → Bool → ℕ → List ℕ → Type 0
LendsNext code k far count bytes = (s : Setting) (w : WorldState) → StandsFor code s w → bytes ≡ next_from (stream_numbered w.streams k) (side_named far) count

abbrev pub waiting_at : WorldState → StreamState → Option ℕ → Option Waiting
waiting_at w t None = None
waiting_at w t (Some node) = Some (record { near = member_of w t.near.node; node = node })

abbrev pub waiting_for : Setting → WorldState → Option StreamState → Option Waiting
waiting_for s w None = None
waiting_for s w (Some t) = if is_waiting t.far_side then waiting_at w t (member_at s t.to) else None

-- who dialled the stream of this number and who is to open it, where it waits to be opened
abbrev pub TellsWaiting : World → ℕ → Option Waiting → Type 0
TellsWaiting code k found = (s : Setting) (w : WorldState) → StandsFor code s w → found ≡ waiting_for s w (stream_numbered w.streams k)

abbrev pub is_far : Side → Bool
is_far Near = false
is_far Far = true

abbrev pub numbered_side : Option ℕ → Option Side → Option (ℕ × Bool)
numbered_side (Some k) (Some side) = Some (k, is_far side)
numbered_side (Some k) None = None
numbered_side None side = None

abbrev pub dialled_at : StreamEnd → Option StreamState → Option (ℕ × Bool)
dialled_at e None = None
dialled_at e (Some t) = numbered_side t.number (side_of_end e t)

-- Inside: for each list of streams for which the table stands, the stream with this end, and whether it is the far end
abbrev pub TellsNumber : Streams → ℕ → ℕ → Option (ℕ × Bool) → Type 0
TellsNumber code life number found = (begins : Queueing) (ts : List StreamState) (dials : ℕ) → StreamsStand code begins ts dials
    → found ≡ dialled_at (end_of life number) (find (has_end (end_of life number)) ts)

-- the stream that has this number in the node's present life, among the dials that were sent, and whether the node is its far end
abbrev pub TellsStream : World → ℕ → ℕ → Option (ℕ × Bool) → Type 0
TellsStream code node number found = (s : Setting) (w : WorldState) → AnswersFor code node s w
    → let e : StreamEnd = record { node = present_life w node; number = number } in found ≡ dialled_at e (find (has_end e) w.streams)
