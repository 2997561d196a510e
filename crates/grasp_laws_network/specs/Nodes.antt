-- What is so of each life of a node of a network that turns lead to.
use Rattle.std.specs.Prelude.{◌≡◌, ℕ, Some}
use Rattle.grasp_model_node.specs.Node.{NodeState}
use Rattle.grasp_model_node.specs.BoundedNodes.{IsBoundedNode}
use Rattle.grasp_model_network.specs.Runs.{IsReached}
use Rattle.grasp_model_network.specs.Setting.{Member, Setting, numbered}
use Rattle.grasp_model_network.specs.World.{Seat, WorldState, member_of, seat_at}

-- the property holds of each life of a node of the network and its number
abbrev pub OfEachNode : (ℕ → NodeState → Type 0) → WorldState → Type 0
OfEachNode P w = (node : ℕ) (seat : Seat) → seat_at w node ≡ Some seat → P node seat.core

-- each life has the plan of its member
abbrev pub HavePlans : Setting → WorldState → Type 0
HavePlans s w = (life : ℕ) (seat : Seat) (m : Member) → seat_at w life ≡ Some seat → numbered s.members (member_of w life) ≡ Some m → seat.core.plan ≡ m.plan

pub record NodesAreSound : Type 0 where
  -- only steps lead to a node, so its lists stay within their limits, and its sessions are those to which calls of a table lead
  pub sound : (s : Setting) (w : WorldState) → IsReached s w → OfEachNode (λ node n. IsBoundedNode n) w
  -- no turn changes a node's plan
  pub plans : (s : Setting) (w : WorldState) → IsReached s w → HavePlans s w
