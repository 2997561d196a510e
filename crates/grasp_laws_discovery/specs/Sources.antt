-- Where the responses come from that a step of a node queues: they are its own, or tell what it had cached, or are sent on unchanged.
use Rattle.std.specs.Prelude.{◌≡◌, ℕ, true, List, [], Option, Some, None, All, Contains}
use Rattle.grasp_asa.specs.Answers.{flags_registered}
use Rattle.grasp_model_node.specs.Begin.{begin}
use Rattle.grasp_model_node.specs.Datagrams.{serves, own_response}
use Rattle.grasp_model_node.specs.Node.{NodeState}
use Rattle.grasp_model_node.specs.Queue.{Queued, datagram, dial, send}
use Rattle.grasp_model_node.specs.Step.{Coming}
use Rattle.grasp_discovery.specs.Discoveries.{known_of}
use Rattle.grasp_discovery.specs.Topic.{topic_of, kind_of}
use Rattle.grasp_types.specs.declared.address.Address.{Address}
use Rattle.grasp_types.specs.declared.address.Locator.{Locator}
use Rattle.grasp_types.specs.declared.message.Answer.TheVariants.{Divert}
use Rattle.grasp_types.specs.declared.message.Message.{Message}
use Rattle.grasp_types.specs.declared.message.Message.TheVariants.{Noop, Discovery, Response, ReqNeg, ReqSyn, Negotiate, End, Wait, Synch, Flood, Invalid}
use Rattle.grasp_types.specs.declared.objective.Objective.{Objective}
use Rattle.grasp_types.specs.declared.traffic.Input.{Input}
use Rattle.grasp_types.specs.declared.traffic.Input.TheVariants as input
use Rattle.grasp_laws_network.specs.Keeping.{TakesNothing}
use Rattle.grasp_model_network.specs.Sending.{gained}
use Rattle.grasp_model_network.specs.Visits.{Visit, Choice, VisitStep}

-- what comes in a datagram
abbrev pub carried_by : Input → Coming → Option Message
carried_by (input.Datagram link from bytes) x = x.carried
carried_by (input.Api asa call) x = None
carried_by (input.Opened stream from) x = None
carried_by (input.Bytes stream bytes) x = None
carried_by (input.Closed stream) x = None
carried_by (input.Drain max) x = None

-- what comes on a stream
abbrev pub added_by : Input → Coming → List Message
added_by (input.Bytes stream bytes) x = x.added.messages
added_by (input.Api asa call) x = []
added_by (input.Datagram link from bytes) x = []
added_by (input.Opened stream from) x = []
added_by (input.Closed stream) x = []
added_by (input.Drain max) x = []

-- the response is one of these
pub data IsResponseFrom (n : NodeState) (i : Input) (x : Coming) (m : Message) : Type 0 where
  -- the node's own answer, with its own locator, to a discovery that came and that it serves
  own : (session : ℕ) (initiator : Address) (o : Objective) → carried_by i x ≡ Some (Discovery session initiator o) → serves o.flags (flags_registered n.registrations o.name) ≡ true
      → m ≡ own_response n session initiator → IsResponseFrom n i x m
  -- a divert of the locators that it had cached under what a discovery that came looks for
  diverted : (session : ℕ) (initiator : Address) (o : Objective) (known : List Locator × ℕ) → carried_by i x ≡ Some (Discovery session initiator o)
      → known_of n.discoveries (topic_of o.name (kind_of o.flags)) n.reading ≡ Some known → m ≡ Response session initiator known.1 (Divert known.0) None → IsResponseFrom n i x m
  -- a response that came on a stream, unchanged
  sent_on : Contains (added_by i x) m → IsResponseFrom n i x m

-- where the message is a response, it is the node's own answer, a divert of what it had cached, or a response that came on a stream
abbrev pub IsMessageFrom : NodeState → Input → Coming → Message → Type 0
IsMessageFrom n i x (Response session initiator ttl told o) = IsResponseFrom n i x (Response session initiator ttl told o)
IsMessageFrom n i x Noop = Unit {0}
IsMessageFrom n i x (Discovery session initiator o) = Unit {0}
IsMessageFrom n i x (ReqNeg session o) = Unit {0}
IsMessageFrom n i x (ReqSyn session o) = Unit {0}
IsMessageFrom n i x (Negotiate session o) = Unit {0}
IsMessageFrom n i x (End session verdict) = Unit {0}
IsMessageFrom n i x (Wait session millis) = Unit {0}
IsMessageFrom n i x (Synch session o) = Unit {0}
IsMessageFrom n i x (Flood session initiator ttl parts) = Unit {0}
IsMessageFrom n i x (Invalid session detail) = Unit {0}

abbrev pub IsQueuedFrom : NodeState → Input → Coming → Queued → Type 0
IsQueuedFrom n i x (send stream m) = IsMessageFrom n i x m
IsQueuedFrom n i x (dial stream to) = Unit {0}
IsQueuedFrom n i x (datagram link to m) = Unit {0}

-- each response that a step queues is the node's own answer, a divert of what it had cached, or a response that came on a stream, where the
-- step takes nothing from the queue
abbrev pub ResponsesHaveSources : Type 0
ResponsesHaveSources = (v : Visit) (c : Choice) → TakesNothing v.input → VisitStep v c → All (IsQueuedFrom (begin v.seat.core v.now) v.input c.coming) (gained v.seat.core c.after)
