use Rattle.grasp_model_node.specs.Node.{NodeState}
use Rattle.grasp_core.specs.Stands.{NodeStands}
use Rattle.grasp_model_node.specs.Begin.{expired}
use Rattle.grasp_core.proofs.node_core.NodeCore.expire_sessions.Given as goal

-- so many turns have passed
abbrev pub invariant-loop-turn : goal.invariant-loop-turn
invariant-loop-turn l = (n : NodeState) → NodeStands l.fn.self n → NodeStands l.self (expired l.turn n)
