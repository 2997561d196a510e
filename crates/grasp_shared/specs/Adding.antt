-- What calls add to the history of a core.
use Rattle.std.specs.Prelude.{◌++◌}
use Rattle.grasp_model_node.specs.Node.{NodeState}
use Rattle.grasp_core.specs.declared.node_core.NodeCore.{NodeCore}
use Rattle.grasp_shared.specs.History.{History, Reaches}

-- whatever history led to the core before, that history and then these calls lead to it afterwards
abbrev pub Adds : NodeCore → History → NodeCore → Type 0
Adds old calls new = (from : NodeState) (history : History) → Reaches from history old → Reaches from (history ++ calls) new
