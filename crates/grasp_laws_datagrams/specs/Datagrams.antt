-- What a datagram does: a discovery and a flood from a neighbour of the plan, and nothing else.
use Rattle.std.specs.Prelude.{◌≡◌, ℕ, List, Option, None, Some}
use Rattle.grasp_laws_datagrams.specs.Discoveries.{DiscoveryDoes}
use Rattle.grasp_laws_datagrams.specs.Floods.{FloodDoes}
use Rattle.grasp_laws_hearing.specs.First.{IsNeighbour}
use Rattle.grasp_model_node.specs.Begin.{begin}
use Rattle.grasp_model_node.specs.Node.{NodeState}
use Rattle.grasp_model_node.specs.Step.{Coming, NodeStep}
use Rattle.grasp_types.specs.declared.links.Neighbour.{Neighbour}
use Rattle.grasp_types.specs.declared.message.Message.{Message}
use Rattle.grasp_types.specs.declared.message.Message.TheVariants.{Noop, Discovery, Response, ReqNeg, ReqSyn, Negotiate, End, Wait, Synch, Flood, Invalid}
use Rattle.grasp_types.specs.declared.reply.Reply.{Reply}
use Rattle.grasp_types.specs.declared.reply.Reply.TheVariants as reply
use Rattle.grasp_types.specs.declared.traffic.Input.TheVariants as input

-- bytes that are no message, and messages of other kinds, change nothing
abbrev pub MessageDoes : NodeState → ℕ → ℕ → Neighbour → Option Message → NodeState → Type 0
MessageDoes n link from neighbour None after = after ≡ n
MessageDoes n link from neighbour (Some (Discovery session initiator o)) after = DiscoveryDoes n link from neighbour session initiator o after
MessageDoes n link from neighbour (Some (Flood session initiator ttl parts)) after = FloodDoes n link session initiator ttl parts after
MessageDoes n link from neighbour (Some Noop) after = after ≡ n
MessageDoes n link from neighbour (Some (Response session initiator ttl told o)) after = after ≡ n
MessageDoes n link from neighbour (Some (ReqNeg session o)) after = after ≡ n
MessageDoes n link from neighbour (Some (ReqSyn session o)) after = after ≡ n
MessageDoes n link from neighbour (Some (Negotiate session o)) after = after ≡ n
MessageDoes n link from neighbour (Some (End session verdict)) after = after ≡ n
MessageDoes n link from neighbour (Some (Wait session millis)) after = after ≡ n
MessageDoes n link from neighbour (Some (Synch session o)) after = after ≡ n
MessageDoes n link from neighbour (Some (Invalid session detail)) after = after ≡ n

-- what comes from no neighbour of the plan changes nothing
pub record DatagramDoes (n : NodeState) (link from : ℕ) (m : Option Message) (after : NodeState) : Type 0 where
  pub neighbour : (neighbour : Neighbour) → IsNeighbour n.plan link from neighbour → MessageDoes n link from neighbour m after
  pub stranger : ((neighbour : Neighbour) → ¬ IsNeighbour n.plan link from neighbour) → after ≡ n

-- nor does one for which there is no memory
abbrev pub IsTaken : NodeState → ℕ → ℕ → Option Message → Reply → NodeState → Type 0
IsTaken n link from m reply.Taken after = DatagramDoes n link from m after
IsTaken n link from m reply.OutOfMemory after = after ≡ n
IsTaken n link from m _ after = ⊥

-- each datagram at each node, once the step has begun
abbrev pub DatagramsAreTaken : Type 0
DatagramsAreTaken = (n after : NodeState) (now link from : ℕ) (bytes : List ℕ) (x : Coming) (r : Reply) → NodeStep n now (input.Datagram link from bytes) x r after
    → IsTaken (begin n now) link from x.carried r after
