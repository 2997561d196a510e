-- How long the messages are that a node queues and gives (RFC 8990, section 2.6). The limit is the plan's.
use Rattle.std.specs.Prelude.{◌≤◌, ℕ, List, length, All}
use Rattle.grasp_model_node.specs.Node.{NodeState, first_node}
use Rattle.grasp_model_node.specs.Queue.{Queued, datagram, dial, send, encoding}
use Rattle.grasp_model_node.specs.Step.{Coming, NodeStep}
use Rattle.grasp_model_node.specs.declared.plan.NodePlan.{NodePlan}
use Rattle.grasp_types.specs.declared.reply.Reply.{Reply}
use Rattle.grasp_types.specs.declared.reply.Reply.TheVariants as reply
use Rattle.grasp_types.specs.declared.traffic.Input.{Input}
use Rattle.grasp_types.specs.declared.traffic.Input.TheVariants as input
use Rattle.grasp_types.specs.declared.traffic.Output.{Output}
use Rattle.grasp_types.specs.declared.traffic.Output.TheVariants.{Datagram, Dial, Send, Close}

-- the shortest encoding of the output's message, where it has one, is at most so many bytes
abbrev pub FitsIn : ℕ → Queued → Type 0
FitsIn limit (datagram link to m) = length (encoding m) ≤ limit
FitsIn limit (dial stream to) = Unit {0}
FitsIn limit (send stream m) = length (encoding m) ≤ limit

-- each output that is queued fits the limit of the node's plan
abbrev pub AllFit : NodeState → Type 0
AllFit n = All (FitsIn n.plan.limit) n.queue

-- a node begins so, and each step leaves it so, where the limit is one that a plan may have
abbrev pub QueuesFit : Type 0
QueuesFit = ((plan : NodePlan) → AllFit (first_node plan))
    × ((n after : NodeState) (now : ℕ) (i : Input) (x : Coming) (r : Reply) → 2048 ≤ n.plan.limit → AllFit n → NodeStep n now i x r after → AllFit after)

-- the bytes of the output, where it has any, are at most so many
abbrev pub HasFewBytes : ℕ → Output → Type 0
HasFewBytes limit (Datagram link to bytes) = length bytes ≤ limit
HasFewBytes limit (Dial stream to) = Unit {0}
HasFewBytes limit (Send stream bytes) = length bytes ≤ limit
HasFewBytes limit (Close stream) = Unit {0}

-- so have all outputs that a drain gives
abbrev pub WhatIsGivenFits : Type 0
WhatIsGivenFits = (n after : NodeState) (now max : ℕ) (x : Coming) (outputs : List Output) → AllFit n
    → NodeStep n now (input.Drain max) x (reply.Outputs outputs) after → All (HasFewBytes n.plan.limit) outputs
