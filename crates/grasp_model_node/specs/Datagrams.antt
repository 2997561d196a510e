-- A datagram from a neighbour: a discovery or a flood (RFC 8990, sections 2.5.4 and 2.5.6.2).
use Rattle.std.specs.Prelude.{ℕ, ◌-◌, Bool, false, not, ◌&&◌, ◌||◌, nat_le, List, [], ◌∷◌, Option, None, Some, if◌then◌else◌}
use Rattle.grasp_asa.specs.Answers.{flags_registered}
use Rattle.grasp_discovery.specs.Discoveries as discovery
use Rattle.grasp_discovery.specs.Topic.{topic_of, kind_of}
use Rattle.grasp_discovery.specs.declared.answers.Heard as answered
use Rattle.grasp_discovery.specs.declared.answers.Heard.TheVariants as discovered
use Rattle.grasp_discovery.specs.declared.answers.Cause.{Cause}
use Rattle.grasp_flood.specs.Floods as flood
use Rattle.grasp_flood.specs.declared.heard.Heard as told
use Rattle.grasp_flood.specs.declared.heard.Heard.TheVariants as flooded
use Rattle.grasp_types.specs.Flood.{first_loops}
use Rattle.grasp_types.specs.Objective.{has_disc, has_neg, has_synch}
use Rattle.grasp_types.specs.Origin.{origin_of}
use Rattle.grasp_types.specs.Same.{same_address}
use Rattle.grasp_types.specs.declared.address.Address.{Address}
use Rattle.grasp_types.specs.declared.address.Locator.{Locator}
use Rattle.grasp_types.specs.declared.flood.FloodPart.{FloodPart}
use Rattle.grasp_types.specs.declared.links.Neighbour.{Neighbour}
use Rattle.grasp_types.specs.declared.message.Answer.TheVariants.{Locators, Divert}
use Rattle.grasp_types.specs.declared.message.Message.{Message}
use Rattle.grasp_types.specs.declared.message.Message.TheVariants.{Noop, Discovery, Response, ReqNeg, ReqSyn, Negotiate, End, Wait, Synch, Flood, Invalid}
use Rattle.grasp_types.specs.declared.objective.Objective.{Objective}
use Rattle.grasp_wire.specs.Wire.{IsWireForm}
use Rattle.grasp_model_node.specs.Hear.{neighbour_at}
use Rattle.grasp_model_node.specs.Moves.{with_discoveries, with_floods, relay, dial_with}
use Rattle.grasp_model_node.specs.Node.{NodeState}
use Rattle.grasp_model_node.specs.Queue.{other_ways}

-- the datagram carries this message, or none
abbrev pub Carries : ℕ → List ℕ → Option Message → Type 0
Carries limit bytes (Some m) = IsWireForm m bytes limit
Carries limit bytes None = (m : Message) → ¬ IsWireForm m bytes limit

-- ---- a discovery

-- the registered flags serve what is asked for: F_DISC, and F_NEG or F_SYNCH in common
abbrev pub serves : ℕ → Option ℕ → Bool
serves asked None = false
serves asked (Some registered) = has_disc registered && ((has_neg registered && has_neg asked) || (has_synch registered && has_synch asked))

-- the objective with a loop count less by one
abbrev pub lowered : Objective → Objective
lowered o = record o { loops = o.loops - 1 }

-- a discovery with a loop count of 2 or more is sent on to all neighbours of every other link, with that count less by one
abbrev pub discovery_relayed : NodeState → ℕ → ℕ → Address → Objective → NodeState
discovery_relayed n link session initiator o =
    if nat_le 2 o.loops then relay n (Discovery session initiator (lowered o)) (other_ways link n.plan.links) else n

-- a response of this node's own locator, whose lifetime is 60000 ms
abbrev pub own_response : NodeState → ℕ → Address → Message
own_response n session initiator = Response session initiator 60000 (Locators (n.plan.locator ∷ [])) None

-- cached locators are told by a divert, with the least of their remaining lifetimes; where there are none it is sent on
abbrev pub discovery_passed : NodeState → ℕ → Neighbour → ℕ → Address → Objective → Option (List Locator × ℕ) → NodeState
discovery_passed n link neighbour session initiator o None = discovery_relayed n link session initiator o
discovery_passed n link neighbour session initiator o (Some known) = dial_with n neighbour.locator (Response session initiator known.1 (Divert known.0) None)

-- what is done with a discovery that is new: it is answered, or passed on
abbrev pub discovery_answered : NodeState → ℕ → Neighbour → ℕ → Address → Objective → NodeState
discovery_answered n link neighbour session initiator o =
    if serves o.flags (flags_registered n.registrations o.name) then dial_with n neighbour.locator (own_response n session initiator)
    else discovery_passed n link neighbour session initiator o (discovery.known_of n.discoveries (topic_of o.name (kind_of o.flags)) n.reading)

-- a new discovery is remembered, with the neighbour that caused it
abbrev pub discovery_kept : NodeState → Cause → ℕ → Address → Objective → NodeState
discovery_kept n cause session initiator o =
    with_discoveries n (discovery.after_heard n.discoveries (origin_of session initiator) (discovery.memory_from n.reading cause o) discovered.New)

abbrev pub discovery_heard : NodeState → Cause → Neighbour → ℕ → Address → Objective → answered.Heard → NodeState
discovery_heard n cause neighbour session initiator o discovered.Known = n
discovery_heard n cause neighbour session initiator o discovered.NoPlace = n
discovery_heard n cause neighbour session initiator o discovered.New =
    discovery_answered (discovery_kept n cause session initiator o) cause.link neighbour session initiator o

-- a discovery of this node's own, or one that asks for neither use, is dropped
abbrev pub is_dropped : NodeState → Address → ℕ → Bool
is_dropped n initiator flags = same_address n.plan.address initiator || not (has_neg flags || has_synch flags)

abbrev pub after_discovery : NodeState → Cause → Neighbour → ℕ → Address → Objective → NodeState
after_discovery n cause neighbour session initiator o =
    if is_dropped n initiator o.flags then n
    else discovery_heard n cause neighbour session initiator o (discovery.heard_reply n.discoveries (origin_of session initiator))

-- ---- a flood

abbrev pub loops_of : List FloodPart → ℕ
loops_of [] = 0
loops_of (part ∷ parts) = part.objective.loops

-- a flood is sent on to all neighbours of every other link where the first objective's loop count is 2 or more, with that
-- count less by one
abbrev pub flood_relayed : NodeState → ℕ → ℕ → Address → ℕ → List FloodPart → NodeState
flood_relayed n link session initiator ttl parts =
    if nat_le 2 (loops_of parts) then relay n (Flood session initiator ttl (first_loops parts (loops_of parts - 1))) (other_ways link n.plan.links) else n

abbrev pub flood_kept : NodeState → ℕ → Address → ℕ → List FloodPart → told.Heard → NodeState
flood_kept n session initiator ttl parts heard = with_floods n (flood.after_heard n.floods n.reading (origin_of session initiator) ttl parts heard)

-- one that is remembered renews what it told, one without a place is dropped, and one that is new is kept and sent on
abbrev pub flood_heard : NodeState → ℕ → ℕ → Address → ℕ → List FloodPart → told.Heard → NodeState
flood_heard n link session initiator ttl parts flooded.Known = flood_kept n session initiator ttl parts flooded.Known
flood_heard n link session initiator ttl parts flooded.NoPlace = n
flood_heard n link session initiator ttl parts flooded.New = flood_relayed (flood_kept n session initiator ttl parts flooded.New) link session initiator ttl parts

-- a flood of this node's own is dropped
abbrev pub after_flood : NodeState → ℕ → ℕ → Address → ℕ → List FloodPart → NodeState
after_flood n link session initiator ttl parts =
    if same_address n.plan.address initiator then n
    else flood_heard n link session initiator ttl parts (flood.heard_reply n.floods (origin_of session initiator))

-- ---- a datagram

-- only discoveries and floods come by datagram; any other message changes nothing
abbrev pub datagram_of : NodeState → Cause → Neighbour → Option Message → NodeState
datagram_of n cause neighbour None = n
datagram_of n cause neighbour (Some (Discovery session initiator o)) = after_discovery n cause neighbour session initiator o
datagram_of n cause neighbour (Some (Flood session initiator ttl parts)) = after_flood n cause.link session initiator ttl parts
datagram_of n cause neighbour (Some Noop) = n
datagram_of n cause neighbour (Some (Response session initiator ttl told o)) = n
datagram_of n cause neighbour (Some (ReqNeg session o)) = n
datagram_of n cause neighbour (Some (ReqSyn session o)) = n
datagram_of n cause neighbour (Some (Negotiate session o)) = n
datagram_of n cause neighbour (Some (End session verdict)) = n
datagram_of n cause neighbour (Some (Wait session millis)) = n
datagram_of n cause neighbour (Some (Synch session o)) = n
datagram_of n cause neighbour (Some (Invalid session detail)) = n

abbrev pub datagram_by : NodeState → Cause → Option Message → Option Neighbour → NodeState
datagram_by n cause m None = n
datagram_by n cause m (Some neighbour) = datagram_of n cause neighbour m

-- a link or a neighbour outside the plan changes nothing
unfoldable pub after_datagram : NodeState → ℕ → ℕ → Option Message → NodeState
after_datagram n link from m = datagram_by n (record { link = link; from = from }) m (neighbour_at n link from)
