-- What comes with an input at a node that the code keeps.
use Rattle.std.specs.Prelude.{ℕ, ◌<◌, ◌^◌}
use Rattle.grasp_model_node.specs.Divided.{HasBytes, Comes}
use Rattle.grasp_model_node.specs.Node.{NodeState}
use Rattle.grasp_core.specs.Stands.{NodeStands}
use Rattle.grasp_core.specs.declared.node_core.NodeCore.{NodeCore}
use Rattle.grasp_types.specs.declared.traffic.Input.{Input}

-- whatever is delivered to a node for which a core stands, at whatever reading, something comes with it: so a step of the core has an outcome
abbrev pub SomethingComesToCores : Type 0
SomethingComesToCores = (core : NodeCore) (n : NodeState) (now : ℕ) (i : Input) → 0 < n.plan.limit → n.plan.limit < 2 ^ 64 → NodeStands core n → HasBytes i → Comes n now i
