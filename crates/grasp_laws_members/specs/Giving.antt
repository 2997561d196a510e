-- What a network can give one of its members at a moment: what the world outside a node that runs is to keep to.
use Rattle.std.specs.Prelude.{◌≡◌, ◌≢◌, ℕ, Bool, true, false, List, Some}
use Rattle.grasp_model_network.specs.Ranges.{IsCall}
use Rattle.grasp_model_network.specs.Setting.{Setting, member_at, numbered}
use Rattle.grasp_model_network.specs.StreamChanges.{side_named}
use Rattle.grasp_model_network.specs.Streams.{StreamState, end_at, is_reached, is_waiting, next_bytes, side_at, stream_numbered}
use Rattle.grasp_model_network.specs.World.{Seat, SentDatagram, WorldState, end_of, present_life, seat_at}
use Rattle.grasp_model_network.specs.declared.event.Event.{Event}
use Rattle.grasp_model_network.specs.declared.event.Event.TheVariants as event
use Rattle.grasp_model_node.specs.Queue.{encoding}
use Rattle.grasp_session.specs.Messages.{Side, other}
use Rattle.grasp_types.specs.declared.address.Address.{Address}
use Rattle.grasp_types.specs.declared.call.Call.{Call}
use Rattle.grasp_types.specs.declared.traffic.Input.{Input}
use Rattle.grasp_types.specs.declared.traffic.Input.TheVariants as input

-- ---- datagrams (RFC 8990, section 2.5.4)

-- the datagram of this number was sent to this member, comes in on this link and from this neighbour there, and has these bytes: whether it was
-- delivered before or not
pub record IsSentTo (w : WorldState) (node link from : ℕ) (bytes : List ℕ) (index : ℕ) : Type 0 where
  pub datagram : SentDatagram
  pub found : numbered w.datagrams index ≡ Some datagram
  pub receiver : datagram.route.receiver ≡ node
  pub link_is : datagram.route.link ≡ link
  pub from_is : datagram.route.from ≡ from
  pub bytes_are : encoding datagram.message ≡ bytes

-- ---- streams (RFC 8990, section 2.5.5)

-- the stream of this number was dialled to where this member listens, and wasn't opened there; it arrives with this number, and from this address
pub record IsDialledTo (s : Setting) (w : WorldState) (node stream : ℕ) (from : Address) (k : ℕ) : Type 0 where
  pub talk : StreamState
  pub found : stream_numbered w.streams k ≡ Some talk
  pub waits : is_waiting talk.far_side ≡ true
  pub to : member_at s talk.to ≡ Some node
  pub near : Seat
  pub dialler : seat_at w talk.near.node ≡ Some near
  pub number : s.arrives_as (present_life w node) k ≡ stream
  pub from_is : s.arrives_from k near.core.plan.address ≡ from

-- this side of the stream of this number is the member's, where the stream has this number, and it was opened there and not told to be closed
pub record IsOpenAt (w : WorldState) (node stream k : ℕ) (side : Side) : Type 0 where
  pub talk : StreamState
  pub found : stream_numbered w.streams k ≡ Some talk
  pub reached : is_reached (side_at talk side) ≡ true
  pub end : end_at talk side ≡ Some (end_of (present_life w node) stream)

-- and these are the next bytes that the other side sent: so many, or all that are left
pub record IsNextOf (w : WorldState) (node stream : ℕ) (bytes : List ℕ) (k count : ℕ) (side : Side) : Type 0 where
  pub at : IsOpenAt w node stream k side
  pub bytes_are : next_bytes at.talk (other side) count ≡ bytes

-- ---- calls

-- a call of the agent of prefixes, or one of another agent, which isn't agent 1, and whose call is within its ranges
abbrev pub IsCalledBy : ℕ → Bool → ℕ → Call → Event → Type 0
IsCalledBy node true asa call e = e ≡ event.Agent node true
IsCalledBy node false asa call e = (e ≡ event.Api node asa call true) × (asa ≢ 1) × IsCall call

-- ---- all of it

-- the network can give the member this input at this moment, by this event; or it is a call, or a drain
abbrev pub Gives : Setting → WorldState → ℕ → Bool → Input → Event → Type 0
Gives s w node own (input.Api asa call) e = IsCalledBy node own asa call e
Gives s w node own (input.Datagram link from bytes) e = (index : ℕ) × (e ≡ event.Datagram index true) × IsSentTo w node link from bytes index
Gives s w node own (input.Opened stream from) e = (k : ℕ) × (e ≡ event.Arrive k true) × IsDialledTo s w node stream from k
Gives s w node own (input.Bytes stream bytes) e =
    (k : ℕ) × (far : Bool) × (count : ℕ) × (e ≡ event.Bytes k far count true) × IsNextOf w node stream bytes k count (side_named far)
Gives s w node own (input.Closed stream) e = (k : ℕ) × (far : Bool) × (e ≡ event.Cut k far true) × IsOpenAt w node stream k (side_named far)
Gives s w node own (input.Drain max) e = e ≡ event.Drain node max
