-- A running node as one of a network.
use Rattle.std.specs.Prelude.{◌≡◌}
use Rattle.grasp_model_network.specs.Openings.{opened_seat}
use Rattle.grasp_model_node.specs.Node.{NodeState, first_node}
use Rattle.grasp_model_node.specs.declared.plan.NodePlan.{NodePlan}
use Rattle.grasp_node_main.specs.Openings.{openings, opened_agent}
use Rattle.grasp_pool.specs.Holdings.{Holding}
use Rattle.grasp_shared.specs.History.{IsLegalHistory}

-- the opening calls lead to the node and the agent with which a life in a network begins
abbrev pub NodesOpenAsSeats : Type 0
NodesOpenAsSeats = (plan : NodePlan) (pool : Holding) (opened : NodeState) → IsLegalHistory (first_node plan) openings opened → opened_seat plan pool ≡ record { core = opened; agent = opened_agent pool }
