-- What a node queues is messages in range that fit the limit of its plan (RFC 8990, sections 2.6 and 2.8).
use Rattle.std.specs.Prelude.{◌≤◌, ℕ, All}
use Rattle.grasp_model_network.specs.Ranges.{IsCall}
use Rattle.grasp_model_node.specs.Node.{NodeState, first_node}
use Rattle.grasp_model_node.specs.Queue.{Queued, datagram, dial, send}
use Rattle.grasp_model_node.specs.Step.{Coming, NodeStep}
use Rattle.grasp_model_node.specs.declared.plan.NodePlan.{NodePlan}
use Rattle.grasp_types.specs.Address.{IsAddress, IsLocator}
use Rattle.grasp_types.specs.declared.reply.Reply.{Reply}
use Rattle.grasp_types.specs.declared.traffic.Input.{Input}
use Rattle.grasp_types.specs.declared.traffic.Input.TheVariants as input
use Rattle.grasp_wire.specs.Laws.{IsSendable}

-- what the plan's messages are made of is in range, and the limit is one that a plan may have
pub record IsGoodPlan (plan : NodePlan) : Type 0 where
  pub address : IsAddress plan.address
  pub locator : IsLocator plan.locator
  pub least : 2048 ≤ plan.limit

-- an agent's call has its arguments in range; of what comes from peers nothing is asked
abbrev pub IsGoodInput : Input → Type 0
IsGoodInput (input.Api asa call) = IsCall call
IsGoodInput (input.Datagram link from bytes) = Unit {0}
IsGoodInput (input.Opened stream from) = Unit {0}
IsGoodInput (input.Bytes stream bytes) = Unit {0}
IsGoodInput (input.Closed stream) = Unit {0}
IsGoodInput (input.Drain max) = Unit {0}

-- steps lead from the first node of the plan to this one
pub data IsLedTo (plan : NodePlan) : NodeState → Type 0 where
  begins : IsLedTo plan (first_node plan)
  goes_on : (n after : NodeState) (now : ℕ) (i : Input) (x : Coming) (r : Reply) → IsLedTo plan n → IsGoodInput i → NodeStep n now i x r after
      → IsLedTo plan after

-- a message for a neighbour or a stream is in range, and encodes within the limit
abbrev pub CanGoOut : ℕ → Queued → Type 0
CanGoOut limit (datagram link to m) = IsSendable limit m
CanGoOut limit (dial stream to) = Unit {0}
CanGoOut limit (send stream m) = IsSendable limit m

-- at each node to which steps lead
abbrev pub QueuedAreMessages : Type 0
QueuedAreMessages = (plan : NodePlan) → IsGoodPlan plan → (n : NodeState) → IsLedTo plan n → All (CanGoOut plan.limit) n.queue
