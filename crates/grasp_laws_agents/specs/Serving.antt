-- What a node keeps for its agent of prefixes (RFC 8992, section 5.1).
use Rattle.std.specs.Prelude.{◌≡◌, ◌≢◌, ℕ, true, Some, None}
use Rattle.grasp_agent.specs.Calls.{objective_name}
use Rattle.grasp_agent.specs.States.{AgentState}
use Rattle.grasp_agent.specs.declared.stage.Stage.TheVariants.{Serving}
use Rattle.grasp_asa.specs.Answers.{listener_of}
use Rattle.grasp_asa.specs.Registrations.{is_registered}
use Rattle.grasp_model_node.specs.Node.{NodeState}
use Rattle.grasp_model_node.specs.Tests.{owned_flags}
use Rattle.grasp_model_network.specs.World.{WorldState, seat_at}
use Rattle.grasp_model_network.specs.World as world

-- P holds of each node of the network and its agent
abbrev pub OfEachSeat : (NodeState → AgentState → Type 0) → WorldState → Type 0
OfEachSeat P w = (node : ℕ) (seat : world.Seat) → seat_at w node ≡ Some seat → P seat.core seat.agent

-- the agent is agent 1 and its opening calls are done; it is registered, with its objective, which has the flags F_DISC and F_NEG and
-- is listened for; and no other agent has an objective of this name
pub record Serves (n : NodeState) (a : AgentState) : Type 0 where
  pub number : a.asa ≡ 1
  pub stage : a.stage ≡ Serving
  pub registered : is_registered n.registrations 1 ≡ true
  pub flags : owned_flags n 1 objective_name ≡ Some 3
  pub listens : listener_of n.registrations objective_name ≡ Some 1
  pub alone : (asa : ℕ) → asa ≢ 1 → owned_flags n asa objective_name ≡ None
