use Rattle.grasp_model_node.specs.Node.{NodeState}
use Rattle.grasp_model_node.specs.RegistryCalls.{without_sessions}
use Rattle.grasp_core.specs.Stands.{NodeStands}
use Rattle.grasp_core.proofs.node_core.NodeCore.drop_sessions.Given as goal

-- so many sessions have left
abbrev pub invariant-loop-turn : goal.invariant-loop-turn
invariant-loop-turn l = (n : NodeState) → NodeStands l.fn.self n → NodeStands l.self (without_sessions l._turn n l.asa)
