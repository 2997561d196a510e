-- Inside: what the code promises of outputs that are sent.
use Rattle.std.specs.Prelude.{◌≡◌, ◌≤◌, ℕ, Bool, true, not, List, ◌++◌, length, map, None, Some, All, option_map, Option}
use Rattle.grasp_model_node.specs.Begin.{begin}
use Rattle.grasp_model_node.specs.Draining as core
use Rattle.grasp_model_node.specs.Queue.{Queued, datagram, dial, send, encoding, output_of}
use Rattle.grasp_types.specs.declared.message.Message.{Message}
use Rattle.grasp_types.specs.declared.traffic.Output.{Output}
use Rattle.grasp_types.specs.declared.traffic.Output.TheVariants.{Close}
use Rattle.grasp_model_network.specs.Events.{drained_behind}
use Rattle.grasp_model_network.specs.Plans.{IsNode, IsGoodLink}
use Rattle.grasp_model_network.specs.Routes.{Route, route_of, route_on}
use Rattle.grasp_model_network.specs.Sending.{posted, having_sent, having_closed, handed_over, drained}
use Rattle.grasp_model_network.specs.Setting.{Setting, line_of, lines_of}
use Rattle.grasp_model_network.specs.Streams.{StreamState, count_at_end}
use Rattle.grasp_model_network.specs.World.{Seat, WorldState, end_of, member_of, present_life, seat_at}
use Rattle.grasp_laws_delivery.specs.Ready.{IsDialOf, AreSent, AreReady}
use Rattle.grasp_simulator.specs.Marking.{is_here}
use Rattle.grasp_simulator.specs.WorldStands.{WorldKeeps, WorldGoes}
use Rattle.grasp_simulator.specs.declared.ways.Way.{Way}
use Rattle.grasp_simulator.specs.declared.world.World.{World}

-- ---- ways of datagrams

abbrev pub way_of : Route → Way
way_of r = record { receiver = r.receiver; link = r.link; from = r.from }

-- the way of these numbers, where they are known
abbrev pub made_way : ℕ → Option ℕ → Option ℕ → Option Way
made_way receiver None from = None
made_way receiver (Some link) None = None
made_way receiver (Some link) (Some from) = Some (record { receiver = receiver; link = link; from = from })

-- the links of a good plan of so many nodes
pub record AreGoodLinks (nodes : ℕ) (lines : List (List ℕ)) : Type 0 where
  pub links : All (IsGoodLink nodes) lines
  pub few : (node : ℕ) → IsNode nodes node → length (lines_of node lines) ≤ 16

-- the way from a node to its neighbour of this number on its link of this number, among good links
abbrev pub IsWay : List (List ℕ) → ℕ → ℕ → ℕ → Option Way → Type 0
IsWay lines node link to way = (nodes : ℕ) → AreGoodLinks nodes lines → way ≡ option_map way_of (route_on node lines to (line_of node lines link))

-- ---- one output

-- the output of a node can be sent
abbrev pub CanSend : ℕ → Queued → List StreamState → Type 0
CanSend node (datagram link to m) ts = Unit {0}
CanSend node (dial stream to) ts = IsDialOf ts (end_of node stream) to
CanSend node (send stream m) ts = (count_at_end ts (end_of node stream) ≡ 1) × AreSent ts (end_of node stream)

-- a datagram with these bytes is sent along a node's way, where there is one
abbrev pub Posts : World → World → ℕ → ℕ → ℕ → List ℕ → Type 0
Posts before after node link to bytes = (s : Setting) (w : WorldState) (m : Message) → WorldKeeps before s w → bytes ≡ encoding m → WorldKeeps after s (posted w m (route_of s node link to))

-- the output of a present life of the node is sent, where it can be
pub record Puts (before after : World) (node life : ℕ) (output : Output) : Type 0 where
  pub queued : (s : Setting) (w : WorldState) (q : Queued) → WorldKeeps before s w → member_of w life ≡ node → is_here w.lives life ≡ true → CanSend life q w.streams → output ≡ output_of q
      → WorldKeeps after s (having_sent s life w q)
  pub closed : (s : Setting) (w : WorldState) (stream : ℕ) → WorldKeeps before s w → output ≡ Close stream → WorldKeeps after s (having_closed life w stream)

-- ---- outputs in order

-- what is given for what is queued, and then for closings
abbrev pub outputs_of : List Queued → List ℕ → List Output
outputs_of queued streams = map output_of queued ++ map Close streams

-- what a present life of a node has queued can be sent in order
pub record MaySend (code : World) (s : Setting) (w : WorldState) (node life : ℕ) (queued : List Queued) : Type 0 where
  pub keeps : WorldKeeps code s w
  pub own : member_of w life ≡ node
  pub present : is_here w.lives life ≡ true
  pub ready : AreReady life queued w.streams

-- the outputs are sent in order
abbrev pub HandsOver : World → World → ℕ → ℕ → List Output → Type 0
HandsOver before after node life outputs = (s : Setting) (w : WorldState) (queued : List Queued) (streams : List ℕ) → MaySend before s w node life queued → outputs ≡ outputs_of queued streams
    → WorldKeeps after s (handed_over s w life queued streams)

-- ---- a drain

-- so many outputs of the node's present life are sent
abbrev pub Sends : World → World → ℕ → ℕ → ℕ → Type 0
Sends before after node max count = (s : Setting) (w : WorldState) (seat : Seat) → WorldGoes before s w → seat_at w (present_life w node) ≡ Some seat
    → WorldKeeps after s (drained s w (present_life w node) max) × (count ≡ length (core.drained (begin seat.core seat.core.reading) max))

-- outputs of the node's present life are sent behind an event, unless it is held
abbrev pub SendsBehind : World → World → ℕ → Bool → Type 0
SendsBehind before after node hold = (s : Setting) (w : WorldState) (seat : Seat) → WorldGoes before s w → seat_at w (present_life w node) ≡ Some seat
    → WorldKeeps after s (drained_behind (not hold) s w (present_life w node))
