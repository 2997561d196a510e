-- Each datagram leaves the parts of a node as they hold together.
use Rattle.std.proofs.Common.{ℕ, Option}
use Rattle.grasp_types.specs.declared.message.Message.{Message}
use Rattle.grasp_model_node.specs.BoundedNodes.{IsBoundedNode}
use Rattle.grasp_model_node.specs.Datagrams.{after_datagram}
use Rattle.grasp_model_node.specs.Node.{NodeState}
use Rattle.grasp_laws_node.proofs.Bounded.Walk.{move_kept}
use Rattle.grasp_laws_node.proofs.Consistent.Moves.{IsHeld, Holds, dial_queued}
use Rattle.grasp_laws_node.proofs.Walk.Datagrams.{datagram_moves}
use Rattle.grasp_laws_node.proofs.Walk.Moves.{Move, datagrams, nothing, next_dial, kept, still, unfolded, replies}

move_held : (base n after : NodeState) → Move nothing base n datagrams after → Holds n → IsHeld after
unfolding unfolded
move_held base n after (replies to m i e) k = dial_queued n (next_dial n to m) k.0 k.1
move_held base n after _ k = record { ties = k.1.ties; heard = k.1.heard; fresh = k.1.fresh }

move_holds : (base : NodeState) → IsBoundedNode base → (n after : NodeState) → Move nothing base n datagrams after → Holds n → Holds after
move_holds base node n after x k = (move_kept nothing base node (λ m i. absurd i) datagrams n after x (λ s i. absurd i) k.0, move_held base n after x k)

pub datagram_holds : (n : NodeState) (link from : ℕ) (m : Option Message) → Holds n → Holds (after_datagram n link from m)
datagram_holds n link from m k = kept Holds (move_holds n k.0) (datagram_moves nothing n n n link from m still) k
