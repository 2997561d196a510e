-- Each input has an outcome at each node to which steps lead: no case of a step is left without a reply and a node after it.
use Rattle.std.specs.Prelude.{◌<◌, ◌^◌, ℕ}
use Rattle.grasp_types.specs.declared.refusal.ApiRefused.{ApiRefused}
use Rattle.grasp_types.specs.declared.refusal.ApiRefused.TheVariants as refusal
use Rattle.grasp_types.specs.declared.reply.Reply.{Reply}
use Rattle.grasp_types.specs.declared.reply.Reply.TheVariants as reply
use Rattle.grasp_types.specs.declared.traffic.Input.{Input}
use Rattle.grasp_model_node.specs.Begin.{begin}
use Rattle.grasp_model_node.specs.Divided.{IsDivided, HasBytes}
use Rattle.grasp_model_node.specs.Node.{NodeState}
use Rattle.grasp_model_node.specs.Step.{Coming, IsComing, NodeStep}

-- the refusal has another cause than that the node was out of memory
abbrev pub HasCause : ApiRefused → Type 0
HasCause refusal.OutOfMemory = ⊥
HasCause _ = Unit {0}

-- the reply isn't that the node was out of memory
abbrev pub HadMemory : Reply → Type 0
HadMemory reply.OutOfMemory = ⊥
HadMemory (reply.Refused refused) = HasCause refused
HadMemory _ = Unit {0}

-- the step comes out, with what comes with its input and with memory
pub record ComesOut (n : NodeState) (now : ℕ) (i : Input) (x : Coming) : Type 0 where
  pub reply : Reply
  pub after : NodeState
  pub steps : NodeStep n now i x reply after
  pub had_memory : HadMemory reply

-- whatever comes with an input, at any node and any time
abbrev pub EachComingComesOut : Type 0
EachComingComesOut = (n : NodeState) (now : ℕ) (i : Input) (x : Coming) → IsComing (begin n now) i x → ComesOut n now i x

-- something comes with the input, and the step comes out with it
pub record HasOutcome (n : NodeState) (now : ℕ) (i : Input) : Type 0 where
  pub coming : Coming
  pub comes_out : ComesOut n now i coming

-- each input at each time, where what came on the node's open streams waits there, its messages have a limit in range, and what comes is bytes
abbrev pub EachInputComesOut : Type 0
EachInputComesOut = (n : NodeState) (now : ℕ) (i : Input) → IsDivided n → n.plan.limit < 2 ^ 64 → HasBytes i → HasOutcome n now i
