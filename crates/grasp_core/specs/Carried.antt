-- Inside: what a datagram carries, and what becomes of it in parts.
use Rattle.std.specs.Prelude.{ℕ, nat_le, List, Option, None, Some, if◌then◌else◌}
use Rattle.grasp_discovery.specs.Discoveries as discovery
use Rattle.grasp_discovery.specs.declared.answers.Cause.{Cause}
use Rattle.grasp_discovery.specs.declared.answers.Heard as answered
use Rattle.grasp_discovery.specs.declared.answers.Heard.TheVariants as discovered
use Rattle.grasp_discovery.specs.Topic.{topic_of, kind_of}
use Rattle.grasp_types.specs.declared.address.Address.{Address}
use Rattle.grasp_types.specs.declared.address.Locator.{Locator}
use Rattle.grasp_flood.specs.declared.heard.Heard as told
use Rattle.grasp_flood.specs.declared.heard.Heard.TheVariants as flooded
use Rattle.grasp_types.specs.declared.flood.FloodPart.{FloodPart}
use Rattle.grasp_types.specs.declared.message.Message.{Message}
use Rattle.grasp_types.specs.declared.links.Neighbour.{Neighbour}
use Rattle.grasp_types.specs.declared.message.Answer.TheVariants.{Divert}
use Rattle.grasp_types.specs.declared.message.Message.TheVariants as message
use Rattle.grasp_types.specs.declared.objective.Objective.{Objective}
use Rattle.grasp_model_node.specs.Datagrams.{lowered, discovery_kept, flood_kept, after_discovery, after_flood}
use Rattle.grasp_model_node.specs.Moves.{relay, dial_with}
use Rattle.grasp_model_node.specs.Node.{NodeState}
use Rattle.grasp_model_node.specs.Queue.{other_ways}
use Rattle.grasp_core.specs.declared.carried.Carried.{Carried}
use Rattle.grasp_core.specs.declared.carried.Carried.TheVariants.{Discovery, Flood, Other}

-- what a node does with what a datagram carries
abbrev pub after_carried : NodeState → Cause → Neighbour → Carried → NodeState
after_carried n cause neighbour (Discovery session initiator o) = after_discovery n cause neighbour session initiator o
after_carried n cause neighbour (Flood session initiator ttl parts) = after_flood n cause.link session initiator ttl parts
after_carried n cause neighbour Other = n

-- only a discovery that is new changes the node
abbrev pub where_new : NodeState → NodeState → answered.Heard → NodeState
where_new n after discovered.Known = n
where_new n after discovered.NoPlace = n
where_new n after discovered.New = after

-- the locators that are cached for what a discovery looks for, and the least of their remaining lifetimes
abbrev pub known_at : NodeState → Objective → Option (List Locator × ℕ)
known_at n o = discovery.known_of n.discoveries (topic_of o.name (kind_of o.flags)) n.reading

-- a discovery is remembered, and sent on where its loop count is 2 or more
abbrev pub relayed_kept : NodeState → Cause → ℕ → Address → Objective → NodeState
relayed_kept n cause session initiator o =
    if nat_le 2 o.loops then relay (discovery_kept n cause session initiator o) (message.Discovery session initiator (lowered o)) (other_ways cause.link n.plan.links)
    else discovery_kept n cause session initiator o

-- a discovery is remembered, and answered by what is cached, or sent on
abbrev pub passed_kept : NodeState → Cause → Locator → ℕ → Address → Objective → Option (List Locator × ℕ) → NodeState
passed_kept n cause to session initiator o None = relayed_kept n cause session initiator o
passed_kept n cause to session initiator o (Some known) = dial_with (discovery_kept n cause session initiator o) to (message.Response session initiator known.1 (Divert known.0) None)

-- a flood is kept, and where it is new this is sent on
abbrev pub flood_sent : NodeState → ℕ → ℕ → Address → ℕ → List FloodPart → Message → told.Heard → NodeState
flood_sent n link session initiator ttl parts m flooded.Known = flood_kept n session initiator ttl parts flooded.Known
flood_sent n link session initiator ttl parts m flooded.NoPlace = n
flood_sent n link session initiator ttl parts m flooded.New = relay (flood_kept n session initiator ttl parts flooded.New) m (other_ways link n.plan.links)
