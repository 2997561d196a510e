-- A network: its nodes with their agents, in each of their lives, and all that was ever sent between them. What it is made of, its setting,
-- stands beside it.
use Rattle.std.specs.Prelude.{ℕ, ◌+◌, ◌-◌, ◌==◌, ◌&&◌, Bool, List, [], ◌∷◌, Option, None, Some, find, length, sum_by, slice_set, nat_lt, if◌then◌else◌, unwrap_or}
use Rattle.grasp_agent.specs.States.{AgentState}
use Rattle.grasp_cbor.specs.DataItem.{DataItem}
use Rattle.grasp_model_node.specs.Node.{NodeState}
use Rattle.grasp_model_node.specs.Queue.{encoding}
use Rattle.grasp_types.specs.Prefix.{AddressBlock as Prefix}
use Rattle.grasp_types.specs.declared.address.Address.{Address}
use Rattle.grasp_types.specs.declared.flood.FloodRead.{FloodRead}
use Rattle.grasp_types.specs.declared.message.Message.{Message}
use Rattle.grasp_types.specs.declared.objective.Objective.{Objective}
use Rattle.grasp_types.specs.declared.session.Handle.{Handle}
use Rattle.grasp_wire.specs.Laws.{encoded}
use Rattle.grasp_model_network.specs.Routes.{Route}
use Rattle.grasp_model_network.specs.Setting.{numbered}
use Rattle.grasp_model_network.specs.Streams.{StreamEnd, StreamState}

-- one life of a node: the node and its agent, which stay at the life's end as they are then
pub record Seat : Type 0 where
  pub core : NodeState
  pub agent : AgentState

-- a datagram that was sent: where it goes, and its message
pub record SentDatagram : Type 0 where
  pub route : Route
  pub message : Message

-- a flood that an agent began: the life of its node, the objective's name, value and registered flags, and the loop count
pub record FloodCall : Type 0 where
  pub node : ℕ
  pub name : List ℕ
  pub value : DataItem
  pub flags : ℕ
  pub loops : ℕ

-- a search that an agent began: the life of its node, the address that the node has, and the session number
pub record SearchCall : Type 0 where
  pub node : ℕ
  pub address : Address
  pub session : ℕ

-- a discovery that a member answered with its own locator: what was looked for, and the flags that it had registered
pub record DiscoveryAnswer : Type 0 where
  pub node : ℕ
  pub objective : Objective
  pub flags : Option ℕ

-- a handle that a node gave in this life
pub record GivenHandle : Type 0 where
  pub node : ℕ
  pub handle : Handle

-- a prefix that was offered in this life of a node: its node has it reserved or in doubt, since then in each of its lives. And the place of the
-- stream for which it was taken: a prefix without a stream is one that is to be given back and wasn't requested
pub record Offered : Type 0 where
  pub node : ℕ
  pub prefix : Prefix
  pub talk : Option ℕ

-- the lives of the nodes, numbered from 1: first the members' first lives, in order, and each restart adds one; whose life each of them is,
-- the number of its member; the datagrams, numbered from 1 in the order of their sending; the streams, in the order in which their
-- dials were queued; how many dials were sent; how many bytes of datagrams and streams; the floods that were begun, and those that
-- were read; the searches that were begun; the discoveries that were answered; the handles that were given; what is reserved or
-- in doubt for which stream; and the offers that were settled
pub record WorldState : Type 0 where
  pub seats : List Seat
  pub lives : List ℕ
  pub datagrams : List SentDatagram
  pub streams : List StreamState
  pub dials : ℕ
  pub byte_count : ℕ
  pub flood_calls : List FloodCall
  pub floods_read : List FloodRead
  pub searches : List SearchCall
  pub answers : List DiscoveryAnswer
  pub handles : List GivenHandle
  pub offers : List Offered
  pub settled : List Offered

-- ---- lives

-- the number of the last of these lives, numbered from this one on, that is the member's, and the one that was found before where none is
unfoldable pub last_life : ℕ → List ℕ → ℕ → ℕ → ℕ
last_life n [] node found = found
last_life n (k ∷ ks) node found = last_life (n + 1) ks node (if k == node then n else found)

-- the number of a member's present life; 1 where there is no such member, so that it is a number in any case
abbrev pub present_life : WorldState → ℕ → ℕ
present_life w node = last_life 1 w.lives node 1

-- whose life it is
abbrev pub member_of : WorldState → ℕ → ℕ
member_of w life = unwrap_or (numbered w.lives life) 0

-- it is its member's present life
abbrev pub is_present : WorldState → ℕ → Bool
is_present w life = present_life w (member_of w life) == life

-- ---- nodes

-- a node in the life of this number
abbrev pub seat_at : WorldState → ℕ → Option Seat
seat_at w node = numbered w.seats node

abbrev pub with_seat : WorldState → ℕ → Seat → WorldState
with_seat w node seat = record w { seats = slice_set w.seats (node - 1) seat }

-- the stream of this number at a node in this life
abbrev pub end_of : ℕ → ℕ → StreamEnd
end_of node stream = record { node = node; number = stream }

-- ---- handles

-- the handle of this number was given in this life
abbrev pub is_given : ℕ → ℕ → GivenHandle → Bool
is_given node number g = g.node == node && g.handle.number == number

abbrev pub place_in : Option GivenHandle → ℕ
place_in None = 0
place_in (Some g) = g.handle.place

-- the place of the handle with this number that was given in this life, and 0 where none was
abbrev pub handle_place : WorldState → ℕ → ℕ → ℕ
handle_place w node number = place_in (find (is_given node number) w.handles)

-- ---- how much was sent

abbrev pub datagram_bytes : SentDatagram → ℕ
datagram_bytes d = length (encoding d.message)

abbrev pub stream_bytes : StreamState → ℕ
stream_bytes t = length (encoded t.from_near.sent) + length (encoded t.from_far.sent)

-- the bytes of all datagrams and streams that were sent; a law says that the network's count is this
unfoldable pub bytes_sent : WorldState → ℕ
bytes_sent w = sum_by datagram_bytes w.datagrams + sum_by stream_bytes w.streams

-- how many bytes may be sent
abbrev pub most_bytes : ℕ
most_bytes = 268435456

-- more was sent than may be
abbrev pub is_too_much : WorldState → Bool
is_too_much w = nat_lt most_bytes w.byte_count
