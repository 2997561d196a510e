-- What one message does that comes on an open stream.
use Rattle.std.specs.Prelude.{ℕ}
use Rattle.grasp_laws_hearing.specs.First.{HasNone, HearsFirst}
use Rattle.grasp_laws_hearing.specs.Later.{IsOn, HearsLater}
use Rattle.grasp_model_node.specs.BoundedNodes.{IsBoundedNode}
use Rattle.grasp_model_node.specs.Hear.{hear}
use Rattle.grasp_model_node.specs.Node.{NodeState}
use Rattle.grasp_session.specs.Sessions.{SessionState}
use Rattle.grasp_types.specs.declared.message.Message.{Message}

-- a message is heard by the live session on the stream, and where there is none as a first one
pub record HearsIt (n : NodeState) (stream : ℕ) (m : Message) : Type 0 where
  pub later : (place : ℕ) (x : SessionState) → IsOn n stream place x → HearsLater n stream place x m (hear n stream m)
  pub first : HasNone n stream → HearsFirst n stream m (hear n stream m)

-- each message at each node to which steps lead
abbrev pub MessagesAreHeard : Type 0
MessagesAreHeard = (n : NodeState) (stream : ℕ) (m : Message) → IsBoundedNode n → HearsIt n stream m
