-- The dials that are queued are those of the streams that were dialled last, in order.
use Rattle.std.specs.Prelude.{◌≡◌, ◌≤◌, ℕ, ◌-◌, length}
use Rattle.grasp_types.specs.declared.reply.Reply.{Reply}
use Rattle.grasp_types.specs.declared.traffic.Input.{Input}
use Rattle.grasp_model_node.specs.Node.{NodeState, first_node}
use Rattle.grasp_model_node.specs.Step.{Coming, NodeStep}
use Rattle.grasp_model_node.specs.declared.plan.NodePlan.{NodePlan}
use Rattle.grasp_laws_node.specs.Dials.{dialled_in, evens_from}

-- how many dials are queued
abbrev pub dials_queued : NodeState → ℕ
dials_queued n = length (dialled_in n.queue)

-- no more are queued than were dialled, and they are the last ones
pub record QueueInOrder (n : NodeState) : Type 0 where
  pub no_more : dials_queued n ≤ n.streams.dialled
  pub in_order : dialled_in n.queue ≡ evens_from (n.streams.dialled - dials_queued n) (dials_queued n)

-- a node begins so, and each step leaves it so
abbrev pub QueuesAreInOrder : Type 0
QueuesAreInOrder = ((plan : NodePlan) → QueueInOrder (first_node plan))
    × ((n after : NodeState) (now : ℕ) (i : Input) (x : Coming) (r : Reply) → QueueInOrder n → NodeStep n now i x r after → QueueInOrder after)
