-- What bytes add to a stream: something, whatever they are, and nothing else.
use Rattle.std.specs.Prelude.{◌≡◌, ℕ, ◌<◌, ◌^◌, IsSome, List}
use Rattle.grasp_cbor.specs.Bytes.{AllBytes}
use Rattle.grasp_model_node.specs.Bytes.{Added, AddsOn}
use Rattle.grasp_model_node.specs.Node.{NodeState}
use Rattle.grasp_core.specs.Stands.{NodeStands}
use Rattle.grasp_model_node.specs.Streams.{past_of}
use Rattle.grasp_core.specs.declared.node_core.NodeCore.{NodeCore}

-- whatever bytes come on a stream of a node that a core stands for, there is something that they add
abbrev pub SomethingComes : Type 0
SomethingComes = (core : NodeCore) (n : NodeState) (stream : ℕ) (piece : List ℕ) → n.plan.limit < 2 ^ 64 → NodeStands core n → AllBytes piece
    → (a : Added) × AddsOn n.plan.limit piece a (past_of n.streams stream)

-- on an open stream of a node that a core stands for, there is one list of messages that a piece adds, and one rest of one kind
abbrev pub OneComes : Type 0
OneComes = (core : NodeCore) (n : NodeState) (stream : ℕ) (piece : List ℕ) (a b : Added) → NodeStands core n → AllBytes piece → IsSome (past_of n.streams stream)
    → AddsOn n.plan.limit piece a (past_of n.streams stream) → AddsOn n.plan.limit piece b (past_of n.streams stream) → a ≡ b
