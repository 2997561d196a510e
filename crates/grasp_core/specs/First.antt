-- Inside: what the first message of a stream asks for.
use Rattle.std.specs.Prelude.{ℕ}
use Rattle.grasp_discovery.specs.Discoveries.{asker_of, after_answered, end_of}
use Rattle.grasp_types.specs.Origin.{origin_of}
use Rattle.grasp_types.specs.declared.address.Address.{Address}
use Rattle.grasp_types.specs.declared.message.Answer.{Answer}
use Rattle.grasp_types.specs.declared.message.Message.{Message}
use Rattle.grasp_types.specs.declared.message.Message.TheVariants as message
use Rattle.grasp_model_node.specs.Hear.{Heard, stays, shuts, answered_with, hear_request, hear_synchronization, hear_response, hear_strange}
use Rattle.grasp_model_node.specs.Moves.{with_discoveries}
use Rattle.grasp_model_node.specs.Node.{NodeState}
use Rattle.grasp_core.specs.declared.first.First.{First}
use Rattle.grasp_core.specs.declared.first.First.TheVariants.{Nothing, Request, Synchronization, Response, Over, Strange}

-- what a node does with what is asked for
abbrev pub first_heard : NodeState → ℕ → First → Heard
first_heard n stream Nothing = stays n
first_heard n stream (Request session o) = hear_request n stream session o
first_heard n stream (Synchronization session o) = hear_synchronization n stream session o
first_heard n stream (Response session initiator ttl told o) = hear_response n session initiator ttl told (message.Response session initiator ttl told o)
first_heard n stream Over = shuts n
first_heard n stream (Strange session) = hear_strange n stream session

-- the locators of a response are in the cache, where it was asked for
unfoldable pub with_response : NodeState → ℕ → Address → ℕ → Answer → NodeState
with_response n session initiator ttl told =
    with_discoveries n (after_answered n.discoveries (end_of n.reading ttl) (answered_with told) (asker_of n.discoveries n.plan.address (origin_of session initiator)))

-- a response, and nothing else, puts its locators into the cache and may be sent on
abbrev pub response_heard : NodeState → Message → Heard
response_heard n (message.Response session initiator ttl told o) = hear_response n session initiator ttl told (message.Response session initiator ttl told o)
response_heard n m = shuts n
