-- What bytes add to an open stream: one list of messages.
use Rattle.std.specs.Prelude.{◌≡◌, ℕ, IsSome, List}
use Rattle.grasp_model_node.specs.Bytes.{Added, AddsOn}
use Rattle.grasp_model_node.specs.Node.{NodeState}
use Rattle.grasp_model_node.specs.Streams.{past_of}

-- on an open stream of any node there is one list of messages that a piece adds
abbrev pub SameMessagesCome : Type 0
SameMessagesCome = (n : NodeState) (stream : ℕ) (piece : List ℕ) (a b : Added) → IsSome (past_of n.streams stream)
    → AddsOn n.plan.limit piece a (past_of n.streams stream) → AddsOn n.plan.limit piece b (past_of n.streams stream) → a.messages ≡ b.messages
