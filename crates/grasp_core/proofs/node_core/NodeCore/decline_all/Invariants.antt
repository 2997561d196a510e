use Rattle.std.proofs.Common.{map}
use Rattle.grasp_model_node.specs.Declines.{after_declines}
use Rattle.grasp_model_node.specs.Node.{NodeState}
use Rattle.grasp_core.specs.Planned.{planned_as}
use Rattle.grasp_core.specs.Stands.{NodeStands}
use Rattle.grasp_core.proofs.node_core.NodeCore.decline_all.Given as goal

-- those that came are declined
abbrev pub invariant-loop-planned : goal.invariant-loop-planned
invariant-loop-planned l = (n : NodeState) → NodeStands l.fn.self n → NodeStands l.self (after_declines n (map planned_as l.yielded))
