-- What comes to the nodes of a network is bytes (RFC 8990, section 2.8).
use Rattle.std.specs.Prelude.{All}
use Rattle.grasp_cbor.specs.Bytes.{AllBytes}
use Rattle.grasp_model_node.specs.Divided.{IsDivided}
use Rattle.grasp_model_node.specs.Queue.{encoding}
use Rattle.grasp_types.specs.Message.{IsMessage}
use Rattle.grasp_types.specs.declared.message.Message.{Message}
use Rattle.grasp_model_network.specs.Events.{visit_of}
use Rattle.grasp_laws_network.specs.Keeping.{IsFedWhere}
use Rattle.grasp_laws_network.specs.Nodes.{OfEachNode}
use Rattle.grasp_model_network.specs.Runs.{IsReached}
use Rattle.grasp_model_network.specs.Setting.{Setting}
use Rattle.grasp_model_network.specs.World.{WorldState}
use Rattle.grasp_model_network.specs.declared.event.Event.{Event}

-- each part of the message is within its range, and its encoding is numbers below 256
pub record IsSentMessage (m : Message) : Type 0 where
  pub is_message : IsMessage m
  pub bytes : AllBytes (encoding m)

-- each datagram of a network that turns lead to has a message with its parts within their ranges, and bytes below 256
abbrev pub DatagramsAreMessages : Type 0
DatagramsAreMessages = (s : Setting) (w : WorldState) → IsReached s w → All (λ d. IsSentMessage d.message) w.datagrams

pub record NodesAreFed : Type 0 where
  -- each node of a network that turns lead to has waiting on its open streams what came on them
  pub nodes : (s : Setting) (w : WorldState) → IsReached s w → OfEachNode (λ node n. IsDivided n) w
  -- in every network that turns lead to, the node of an event has waiting on its open streams what came on them, and what
  -- the event brings is bytes
  pub visits : (s : Setting) (w : WorldState) (e : Event) → IsReached s w → IsFedWhere (visit_of s w e)
