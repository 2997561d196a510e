-- A node on whose streams something is heard.
use Rattle.std.proofs.Common.{ℕ}
use Rattle.grasp_model_node.specs.Node.{NodeState}
use Rattle.grasp_model_node.specs.BoundedNodes.{IsBoundedNode, IsGiven}

-- a node, and a stream with a number that is given
abbrev pub Hears : ℕ → NodeState → Type 0
Hears stream n = IsBoundedNode n × IsGiven n.streams.dialled stream
