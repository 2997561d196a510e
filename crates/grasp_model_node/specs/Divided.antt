-- What an open stream of a node keeps: the messages that came were heard, and a rest shorter than a message may be waits.
use Rattle.std.specs.Prelude.{◌≡◌, ◌≤◌, ◌<◌, ◌*◌, ◌-◌, ◌^◌, ℕ, List, Some, None, IsSome, All}
use Rattle.grasp_cbor.specs.Bytes.{AllBytes}
use Rattle.grasp_types.specs.declared.reply.Reply.{Reply}
use Rattle.grasp_types.specs.declared.traffic.Input.{Input}
use Rattle.grasp_types.specs.declared.traffic.Input.TheVariants as input
use Rattle.grasp_wire.specs.Cutter.{Past}
use Rattle.grasp_wire.specs.Stream.{Divides, waiting}
use Rattle.grasp_model_node.specs.Begin.{begin}
use Rattle.grasp_model_node.specs.Node.{NodeState, first_node}
use Rattle.grasp_model_node.specs.BoundedNodes.{IsBoundedNode}
use Rattle.grasp_model_node.specs.Step.{Coming, IsComing, NodeStep}
use Rattle.grasp_model_node.specs.Streams.{StreamRecord, past_of}
use Rattle.grasp_model_node.specs.Waiting.{KeepsBytes}
use Rattle.grasp_model_node.specs.declared.plan.NodePlan.{NodePlan}

-- what came is bytes, which divide into the messages that were given and a rest that waits
pub record Waits (limit : ℕ) (past : Past) : Type 0 where
  pub bytes : AllBytes past.fed
  pub rest : List ℕ
  pub divides : Divides past.fed limit past.given rest waiting
  pub no_fault : past.fault ≡ None

pub record WaitsOpen (limit : ℕ) (x : StreamRecord) : Type 0 where
  pub waits : (past : Past) → x.past ≡ Some past → Waits limit past

-- the node's messages may have at least one byte, and each of its open streams waits so
pub record IsDivided (n : NodeState) : Type 0 where
  pub some : 0 < n.plan.limit
  pub each : All (WaitsOpen n.plan.limit) n.streams.records

-- the bytes of an input are numbers below 256
abbrev pub HasBytes : Input → Type 0
HasBytes (input.Bytes stream bytes) = AllBytes bytes
HasBytes (input.Datagram link from bytes) = AllBytes bytes
HasBytes (input.Api asa call) = Unit {0}
HasBytes (input.Opened stream from) = Unit {0}
HasBytes (input.Closed stream) = Unit {0}
HasBytes (input.Drain max) = Unit {0}

-- a node begins so, and each step leaves it so, whatever its peers send
abbrev pub FedNodesAreKept : Type 0
FedNodesAreKept = ((plan : NodePlan) → 0 < plan.limit → IsDivided (first_node plan))
    × ((n after : NodeState) (now : ℕ) (i : Input) (x : Coming) (r : Reply) → IsBoundedNode n → IsDivided n → HasBytes i → NodeStep n now i x r after → IsDivided after)

-- the bytes that wait on all open streams are at most 64 times one less than a message may have
abbrev pub KeptIsBounded : Type 0
KeptIsBounded = (n : NodeState) (count : ℕ) → IsBoundedNode n → IsDivided n → KeepsBytes n count → count ≤ 64 * (n.plan.limit - 1)

-- something comes with every input at every reading
pub record Comes (n : NodeState) (now : ℕ) (i : Input) : Type 0 where
  pub coming : Coming
  pub is_coming : IsComing (begin n now) i coming

abbrev pub SomethingAlwaysComes : Type 0
SomethingAlwaysComes = (n : NodeState) (now : ℕ) (i : Input) → IsDivided n → n.plan.limit < 2 ^ 64 → HasBytes i → Comes n now i

-- what is read of two comings is the same: what is added to an open stream, and the message of a datagram
abbrev pub ReadsSame : NodeState → Input → Coming → Coming → Type 0
ReadsSame n (input.Bytes stream bytes) a b = IsSome (past_of n.streams stream) → a.added ≡ b.added
ReadsSame n (input.Datagram link from bytes) a b = a.carried ≡ b.carried
ReadsSame n (input.Api asa call) a b = Unit {0}
ReadsSame n (input.Opened stream from) a b = Unit {0}
ReadsSame n (input.Closed stream) a b = Unit {0}
ReadsSame n (input.Drain max) a b = Unit {0}

-- with each input at each time only one thing comes
abbrev pub ComingsAgree : Type 0
ComingsAgree = (n : NodeState) (now : ℕ) (i : Input) (a b : Coming) → IsDivided n → HasBytes i → IsComing (begin n now) i a → IsComing (begin n now) i b → ReadsSame (begin n now) i a b
