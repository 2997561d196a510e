-- How the code stands for a network of a plan.
use Rattle.std.specs.Prelude.{◌≡◌, ◌-◌, ◌^◌, ℕ, All, Option, None, Some, length, map, min, nat_le, ◌&&◌, if◌then◌else◌}
use Rattle.grasp_agent.specs.States.{AgentState}
use Rattle.grasp_model_node.specs.Queue.{encoding}
use Rattle.grasp_core.specs.Stands.{NodeStands}
use Rattle.grasp_core.specs.declared.node_core.NodeCore.{NodeCore}
use Rattle.grasp_simulator.specs.Contract.{Standing, going, stopped, Network}
use Rattle.grasp_simulator.specs.Marking.{begins_as, MarksStand}
use Rattle.grasp_simulator.specs.PlacesStand.{PlacesStand}
use Rattle.grasp_model_network.specs.Plans.{IsNode, IsGoodPlan}
use Rattle.grasp_model_network.specs.Runs.{IsReached}
use Rattle.grasp_simulator.specs.Remembering.{Remembers}
use Rattle.grasp_simulator.specs.Seats.{SeatsStand}
use Rattle.grasp_simulator.specs.StreamsStand.{StreamsStand}
use Rattle.grasp_model_network.specs.Setting.{Setting, script_setting}
use Rattle.grasp_model_network.specs.World.{Seat, SentDatagram, WorldState, seat_at, handle_place, present_life}
use Rattle.grasp_simulator.specs.declared.parcel.Parcel.{Parcel}
use Rattle.grasp_simulator.specs.declared.world.World.{World}

-- a datagram as the code keeps it: its way, and the bytes of its message
abbrev pub parcel_of : SentDatagram → Parcel
parcel_of d = record { receiver = d.route.receiver; link = d.route.link; from = d.route.from; bytes = encoding d.message }

-- the datagram goes to one of so many nodes
abbrev pub GoesToNode : ℕ → SentDatagram → Type 0
GoesToNode nodes d = IsNode nodes d.route.receiver

-- the largest count that the code keeps
abbrev pub most_count : ℕ
most_count = 2 ^ 64 - 1

-- the code keeps this network of its good plan
pub record WorldKeeps (code : World) (s : Setting) (w : WorldState) : Type 0 where
  pub good : IsGoodPlan code.plan
  pub setting : s ≡ script_setting code.plan
  pub count : length code.seats.items ≡ code.plan.nodes
  pub seats : SeatsStand code.seats.items w.seats w.lives
  pub lives : code.lives ≡ w.lives
  pub streams : StreamsStand code.streams (begins_as w.lives code.marks code.plan.nodes) w.streams w.dials
  pub marks : MarksStand code.marks w.streams
  pub parcels : code.parcels ≡ map parcel_of w.datagrams
  pub receivers : All (GoesToNode code.plan.nodes) w.datagrams
  pub places : PlacesStand code.places w.handles
  pub sent : code.sent ≡ min w.byte_count most_count
  pub goes : code.stopped ≡ None

-- the code keeps this network, and turns have led to it from the first one of its plan
pub record WorldGoes (code : World) (s : Setting) (w : WorldState) : Type 0 where
  pub reached : IsReached s w
  pub keeps : WorldKeeps code s w

-- and remembers what was offered and accepted in it
pub record GoesOn (code : World) (s : Setting) (w : WorldState) : Type 0 where
  pub goes : WorldGoes code s w
  pub remembers : Remembers code.notes w

-- the code keeps a network that goes on, or why it was stopped
abbrev pub StandsSo : World → Setting → Standing → Type 0
StandsSo code s (going w) = GoesOn code s w
StandsSo code s (stopped stop) = code.stopped ≡ Some stop

-- the code stands for this network, of which it has every node
pub record WorldStands (code : World) (x : Network) : Type 0 where
  pub count : length code.seats.items ≡ length x.setting.members
  pub stands : StandsSo code x.setting x.standing

-- Inside: the node whose life it is, among so many
abbrev pub owner_in : ℕ → Option ℕ → Option ℕ
owner_in nodes None = None
owner_in nodes (Some node) = if nat_le 1 node && nat_le node nodes then Some node else None

-- ---- what a network lends

-- the code stands for a network that has a node of this number
pub record HasNode (code : World) (node : ℕ) : Type 0 where
  pub network : Network
  pub stands : WorldStands code network
  pub is_node : IsNode (length network.setting.members) node

-- the code goes on for a network in which this node's present life stands so
pub record IsSeat (code : World) (node : ℕ) (s : Setting) (w : WorldState) (seat : Seat) : Type 0 where
  pub stands : WorldStands code (record { setting = s; standing = going w })
  pub here : seat_at w (present_life w node) ≡ Some seat

-- a core that stands for the node
abbrev pub LendsCore : World → ℕ → NodeCore → Type 0
LendsCore code node core = (s : Setting) (w : WorldState) (seat : Seat) → IsSeat code node s w seat → NodeStands core seat.core

-- the node's agent
abbrev pub LendsAgent : World → ℕ → AgentState → Type 0
LendsAgent code node agent = (s : Setting) (w : WorldState) (seat : Seat) → IsSeat code node s w seat → agent ≡ seat.agent

-- the place of the handle with this number that was given in the node's present life, and 0 where none was
abbrev pub TellsPlace : World → ℕ → ℕ → ℕ → Type 0
TellsPlace code node number place = (s : Setting) (w : WorldState) (seat : Seat) → IsSeat code node s w seat → place ≡ handle_place w (present_life w node) number
