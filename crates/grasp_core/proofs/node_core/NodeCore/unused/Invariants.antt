use Rattle.std.proofs.Common.{◌≡◌}
use Rattle.grasp_model_node.specs.Draws.{is_used, first_unused}
use Rattle.grasp_model_node.specs.Node.{NodeState}
use Rattle.grasp_core.specs.Stands.{NodeStands}
use Rattle.grasp_core.proofs.node_core.NodeCore.unused.Given as goal

abbrev pub decreases-loop-left : goal.decreases-loop-left
decreases-loop-left l = l.left

-- from the number that the loop has come to the search goes on as from the first
abbrev pub invariant-loop-left : goal.invariant-loop-left
invariant-loop-left l = (n : NodeState) → NodeStands l.self n → first_unused (is_used n) l.left l.number ≡ first_unused (is_used n) 128 l.fn.first
