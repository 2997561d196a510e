-- What a step dials: the next streams of the node, in order.
use Rattle.std.specs.Prelude.{◌≡◌, ◌≤◌, ℕ, zero, suc, ◌+◌, ◌-◌, ◌*◌, List, [], ◌∷◌, ◌++◌, length, drop}
use Rattle.grasp_types.specs.declared.reply.Reply.{Reply}
use Rattle.grasp_types.specs.declared.traffic.Input.{Input}
use Rattle.grasp_types.specs.declared.traffic.Input.TheVariants as input
use Rattle.grasp_model_node.specs.Node.{NodeState}
use Rattle.grasp_model_node.specs.Queue.{Queued, datagram, dial, send}
use Rattle.grasp_laws_node.specs.Relays.{DrainQueues}
use Rattle.grasp_model_node.specs.Step.{Coming, NodeStep}

-- the streams that these outputs dial, in order
abbrev pub dialled_in : List Queued → List ℕ
dialled_in [] = []
dialled_in (datagram link to m ∷ qs) = dialled_in qs
dialled_in (dial stream to ∷ qs) = stream ∷ dialled_in qs
dialled_in (send stream m ∷ qs) = dialled_in qs

-- so many even numbers, of which the first is twice this one
abbrev pub evens_from : ℕ → ℕ → List ℕ
evens_from d zero = []
evens_from d (suc count) = (2 * d) ∷ evens_from (d + 1) count

-- what a node has queued behind what was queued before
abbrev pub gained : NodeState → NodeState → List Queued
gained n after = drop (length n.queue) after.queue

abbrev pub IsNoDrain : Input → Type 0
IsNoDrain (input.Drain max) = ⊥
IsNoDrain (input.Api asa call) = Unit {0}
IsNoDrain (input.Datagram link from bytes) = Unit {0}
IsNoDrain (input.Opened stream from) = Unit {0}
IsNoDrain (input.Bytes stream bytes) = Unit {0}
IsNoDrain (input.Closed stream) = Unit {0}

-- what was queued stays, and the dials behind it are those of the streams from the next one on
pub record DialsNext (n after : NodeState) : Type 0 where
  pub queued : after.queue ≡ n.queue ++ gained n after
  pub no_fewer : n.streams.dialled ≤ after.streams.dialled
  pub dials : dialled_in (gained n after) ≡ evens_from n.streams.dialled (after.streams.dialled - n.streams.dialled)

-- each step that doesn't drain
abbrev pub DialsAreCounted : Type 0
DialsAreCounted = (n after : NodeState) (now : ℕ) (i : Input) (x : Coming) (r : Reply) → IsNoDrain i → NodeStep n now i x r after → DialsNext n after

-- a drain takes from the front of the queue and dials nothing
abbrev pub DrainsDialNothing : Type 0
DrainsDialNothing = (n after : NodeState) (now max : ℕ) (x : Coming) (r : Reply) → NodeStep n now (input.Drain max) x r after
    → (after.streams.dialled ≡ n.streams.dialled) × DrainQueues n max r after
