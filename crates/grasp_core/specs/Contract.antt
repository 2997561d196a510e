-- What a step of the code promises: for each node for which it stood before, it stands afterwards for one that a step of
-- that node leads to with this reply.
use Rattle.std.specs.Prelude.{◌≡◌, ◌≤◌, ℕ, List, length, Ok, Err}
use Rattle.grasp_types.specs.declared.call.Call.{Call}
use Rattle.grasp_types.specs.declared.reply.Reply.{Reply}
use Rattle.grasp_types.specs.declared.reply.Reply.TheVariants.{Api, Refused, Outputs, Taken, OutOfMemory}
use Rattle.grasp_types.specs.declared.traffic.Input.{Input}
use Rattle.grasp_model_node.specs.Begin.{begin}
use Rattle.grasp_model_node.specs.Bytes.{AddsOn, after_bytes, StarvesAt}
use Rattle.grasp_model_node.specs.Datagrams.{Carries, after_datagram}
use Rattle.grasp_model_node.specs.Draining.{drained, after_drain}
use Rattle.grasp_model_node.specs.Node.{NodeState}
use Rattle.grasp_core.specs.Stands.{NodeStands}
use Rattle.grasp_model_node.specs.Step.{Coming, IsComing, Acts, NodeStep, MayCall, after_call}
use Rattle.grasp_model_node.specs.Streams.{past_of}
use Rattle.grasp_core.specs.declared.node_core.NodeCore.{NodeCore}

-- a node, and what comes with an input
pub record Meeting : Type 0 where
  pub node : NodeState
  pub coming : Coming

-- ---- a piece of a stream

-- the code stands for the node, and the piece adds this
pub record MeetsBytes (core : NodeCore) (stream : ℕ) (piece : List ℕ) (x : Meeting) : Type 0 where
  pub stands : NodeStands core x.node
  pub adds : AddsOn x.node.plan.limit piece x.coming.added (past_of x.node.streams stream)

-- some of the messages were heard, and then memory was wanted
pub record StarvedAt (core : NodeCore) (stream : ℕ) (piece : List ℕ) (x : Meeting) : Type 0 where
  pub after : NodeState
  pub starves : StarvesAt x.node stream piece x.coming.added after
  pub stands : NodeStands core after

-- Inside: what a piece of a stream is answered with, and the node for which the code stands then
abbrev pub GivesBytes : NodeCore → ℕ → List ℕ → Meeting → Reply → Type 0
GivesBytes core stream piece x Taken = NodeStands core (after_bytes x.node stream piece x.coming.added)
GivesBytes core stream piece x OutOfMemory = StarvedAt core stream piece x
GivesBytes core stream piece x _ = ⊥

-- ---- a datagram

-- Inside: the code stands for the node, and the datagram carries this
pub record MeetsDatagram (core : NodeCore) (bytes : List ℕ) (x : Meeting) : Type 0 where
  pub stands : NodeStands core x.node
  pub carries : Carries x.node.plan.limit bytes x.coming.carried

-- Inside: what a datagram is answered with, and the node for which the code stands then
abbrev pub GivesDatagram : NodeCore → ℕ → ℕ → Meeting → Reply → Type 0
GivesDatagram core link from x Taken = NodeStands core (after_datagram x.node link from x.coming.carried)
GivesDatagram core link from x OutOfMemory = NodeStands core x.node
GivesDatagram core link from x _ = ⊥

-- ---- a drain

-- Inside: what a drain is answered with, and the node for which the code stands then
abbrev pub GivesDrain : NodeCore → ℕ → NodeState → Reply → Type 0
GivesDrain core max n (Outputs outputs) = (outputs ≡ drained n max) × NodeStands core (after_drain n max)
GivesDrain core max n OutOfMemory = (1 ≤ length (drained n max)) × NodeStands core n
GivesDrain core max n _ = ⊥

-- ---- a call

-- Inside: what an agent's call is answered with, and the node for which the code stands then
abbrev pub GivesCall : NodeCore → NodeState → ℕ → Call → Reply → Type 0
GivesCall core n asa call (Api answer) = MayCall n asa call (Ok answer) × NodeStands core (after_call n asa call (Ok answer))
GivesCall core n asa call (Refused refused) = MayCall n asa call (Err refused) × NodeStands core (after_call n asa call (Err refused))
GivesCall core n asa call _ = ⊥

-- ---- an input

-- the code stands for a node whose step has begun, and this comes with the input
pub record MeetsInput (core : NodeCore) (i : Input) (x : Meeting) : Type 0 where
  pub stands : NodeStands core x.node
  pub comes : IsComing x.node i x.coming

-- Inside: the code stands for a node that the input leads to
pub record Acted (core : NodeCore) (i : Input) (x : Meeting) (r : Reply) : Type 0 where
  pub after : NodeState
  pub acts : Acts x.node i x.coming r after
  pub stands : NodeStands core after

-- ---- a step

-- the code stands for the node, and this comes with the input once the step has begun
pub record Meets (core : NodeCore) (now : ℕ) (i : Input) (x : Meeting) : Type 0 where
  pub stands : NodeStands core x.node
  pub comes : IsComing (begin x.node now) i x.coming

-- the step has begun
abbrev pub at_beginning : ℕ → Meeting → Meeting
at_beginning now x = record { node = begin x.node now; coming = x.coming }

-- the code stands for a node that the step leads to with this reply
pub record Stepped (core : NodeCore) (now : ℕ) (i : Input) (x : Meeting) (r : Reply) : Type 0 where
  pub after : NodeState
  pub steps : NodeStep x.node now i x.coming r after
  pub stands : NodeStands core after
