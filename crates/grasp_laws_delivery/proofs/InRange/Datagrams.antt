-- Each datagram leaves a node with messages in range.
use Rattle.std.proofs.Common.{ℕ, ◌-◌, ◌≤◌, ◌<◌, ◌^◌, nat_le, List, [], ◌∷◌, length, Option, Some, None, arith, subst, sym}
use Rattle.std.proofs.lemmas.List.Elements.{All-nil, All-cons}
use Rattle.grasp_asa.specs.Answers.{flags_registered}
use Rattle.grasp_discovery.specs.Discoveries as discovery
use Rattle.grasp_discovery.specs.Topic.{topic_of, kind_of}
use Rattle.grasp_discovery.specs.declared.answers.Cause.{Cause}
use Rattle.grasp_discovery.specs.declared.answers.Heard as answered
use Rattle.grasp_discovery.specs.declared.answers.Heard.TheVariants as discovered
use Rattle.grasp_flood.specs.Floods as flood
use Rattle.grasp_flood.specs.declared.heard.Heard as told
use Rattle.grasp_flood.specs.declared.heard.Heard.TheVariants as flooded
use Rattle.grasp_types.specs.Flood.{first_loops}
use Rattle.grasp_types.specs.Origin.{origin_of}
use Rattle.grasp_types.specs.Address.{IsAddress, IsLocator}
use Rattle.grasp_types.specs.Message.{IsMessage}
use Rattle.grasp_types.specs.Same.{same_address}
use Rattle.grasp_types.specs.declared.address.Address.{Address}
use Rattle.grasp_types.specs.declared.address.Locator.{Locator}
use Rattle.grasp_types.specs.declared.flood.FloodPart.{FloodPart}
use Rattle.grasp_types.specs.declared.links.Neighbour.{Neighbour}
use Rattle.grasp_types.specs.declared.message.Answer.TheVariants.{Divert}
use Rattle.grasp_types.specs.declared.message.Message.{Message}
use Rattle.grasp_types.specs.declared.message.Message.TheVariants.{Discovery, Response, Flood}
use Rattle.grasp_types.specs.declared.objective.Objective.{Objective}
use Rattle.grasp_model_node.specs.Datagrams.{serves, lowered, discovery_relayed, own_response, discovery_passed, discovery_answered, discovery_kept, discovery_heard, is_dropped, after_discovery, loops_of, flood_relayed, flood_kept, flood_heard, after_flood, datagram_of, datagram_by, after_datagram}
use Rattle.grasp_model_node.specs.Hear.{neighbour_at}
use Rattle.grasp_model_node.specs.Moves.{relay, dial_with}
use Rattle.grasp_model_node.specs.Node.{NodeState}
use Rattle.grasp_model_node.specs.Queue.{other_ways}
use Rattle.grasp_model_node.specs.declared.plan.NodePlan.{NodePlan}
use Rattle.grasp_laws_delivery.proofs.InRange.Moves.{IsInRange, IsRealPlan, either, discoveries_real, floods_real, relay_real, dial_with_real}
use Rattle.grasp_laws_delivery.proofs.Fine.Cache.{IsKnown, known_is}

-- ---- a discovery

passed_on_real : (plan : NodePlan) (n : NodeState) (link session : ℕ) (initiator : Address) (o : Objective) → IsInRange plan n → IsInRange plan (discovery_relayed n link session initiator o)
passed_on_real plan n link session initiator o k =
    let m = Discovery session initiator (lowered o) in
    let ways = other_ways link n.plan.links in
    either plan (nat_le 2 o.loops) (relay n m ways) n (relay_real plan n m ways k) k

passed_real : (plan : NodePlan) (n : NodeState) (link : ℕ) (neighbour : Neighbour) (session : ℕ) (initiator : Address) (o : Objective) (known : Option (List Locator × ℕ)) → session < 2 ^ 32 → IsAddress initiator
    → IsKnown known → IsInRange plan n → IsInRange plan (discovery_passed n link neighbour session initiator o known)
passed_real plan n link neighbour session initiator o None small is told k = passed_on_real plan n link session initiator o k
passed_real plan n link neighbour session initiator o (Some known) small is told k =
    dial_with_real plan n neighbour.locator (Response session initiator known.1 (Divert known.0) None) (small, is, told.1, told.0, tt) k

lasting : 60000 < 2 ^ 32
lasting = omega arith

one_there : (locator : Locator) → 1 ≤ length (locator ∷ [])
one_there locator = omega arith

own_is : (plan : NodePlan) (n : NodeState) (session : ℕ) (initiator : Address) → IsRealPlan plan → session < 2 ^ 32 → IsAddress initiator → IsInRange plan n → IsMessage (own_response n session initiator)
own_is plan n session initiator ok small is k = (small, is, lasting, record { some = one_there n.plan.locator; each = All-cons IsLocator n.plan.locator [] own (All-nil IsLocator) }, tt) where
  own : IsLocator n.plan.locator
  own = subst (λ (p : NodePlan). IsLocator p.locator) (sym k.plan_is) ok.locator

answered_real : (plan : NodePlan) (n : NodeState) (link : ℕ) (neighbour : Neighbour) (session : ℕ) (initiator : Address) (o : Objective) → IsRealPlan plan → session < 2 ^ 32 → IsAddress initiator → IsInRange plan n
    → IsInRange plan (discovery_answered n link neighbour session initiator o)
answered_real plan n link neighbour session initiator o ok small is k =
    let known = discovery.known_of n.discoveries (topic_of o.name (kind_of o.flags)) n.reading in
    let m = own_response n session initiator in
    either plan (serves o.flags (flags_registered n.registrations o.name)) (dial_with n neighbour.locator m) (discovery_passed n link neighbour session initiator o known)
    (dial_with_real plan n neighbour.locator m (own_is plan n session initiator ok small is k) k)
    (passed_real plan n link neighbour session initiator o known small is (known_is n.discoveries (topic_of o.name (kind_of o.flags)) n.reading k.cached) k)

heard_real : (plan : NodePlan) (n : NodeState) (cause : Cause) (neighbour : Neighbour) (session : ℕ) (initiator : Address) (o : Objective) (h : answered.Heard) → IsRealPlan plan → session < 2 ^ 32 → IsAddress initiator
    → IsInRange plan n → IsInRange plan (discovery_heard n cause neighbour session initiator o h)
heard_real plan n cause neighbour session initiator o discovered.Known ok small is k = k
heard_real plan n cause neighbour session initiator o discovered.NoPlace ok small is k = k
heard_real plan n cause neighbour session initiator o discovered.New ok small is k =
    answered_real plan (discovery_kept n cause session initiator o) cause.link neighbour session initiator o ok small is
    (discoveries_real plan n (discovery.after_heard n.discoveries (origin_of session initiator) (discovery.memory_from n.reading cause o) discovered.New) k.cached k)

discovery_real : (plan : NodePlan) (n : NodeState) (cause : Cause) (neighbour : Neighbour) (session : ℕ) (initiator : Address) (o : Objective) → IsRealPlan plan → session < 2 ^ 32 → IsAddress initiator → IsInRange plan n
    → IsInRange plan (after_discovery n cause neighbour session initiator o)
discovery_real plan n cause neighbour session initiator o ok small is k =
    let h = discovery.heard_reply n.discoveries (origin_of session initiator) in
    either plan (is_dropped n initiator o.flags) n (discovery_heard n cause neighbour session initiator o h) k (heard_real plan n cause neighbour session initiator o h ok small is k)

-- ---- a flood

flood_on_real : (plan : NodePlan) (n : NodeState) (link session : ℕ) (initiator : Address) (ttl : ℕ) (parts : List FloodPart) → IsInRange plan n → IsInRange plan (flood_relayed n link session initiator ttl parts)
flood_on_real plan n link session initiator ttl parts k =
    let m = Flood session initiator ttl (first_loops parts (loops_of parts - 1)) in
    let ways = other_ways link n.plan.links in
    either plan (nat_le 2 (loops_of parts)) (relay n m ways) n (relay_real plan n m ways k) k

told_real : (plan : NodePlan) (n : NodeState) (session : ℕ) (initiator : Address) (ttl : ℕ) (parts : List FloodPart) (h : told.Heard) → IsInRange plan n → IsInRange plan (flood_kept n session initiator ttl parts h)
told_real plan n session initiator ttl parts h k = floods_real plan n (flood.after_heard n.floods n.reading (origin_of session initiator) ttl parts h) k

flood_heard_real : (plan : NodePlan) (n : NodeState) (link session : ℕ) (initiator : Address) (ttl : ℕ) (parts : List FloodPart) (h : told.Heard) → IsInRange plan n
    → IsInRange plan (flood_heard n link session initiator ttl parts h)
flood_heard_real plan n link session initiator ttl parts flooded.Known k = told_real plan n session initiator ttl parts flooded.Known k
flood_heard_real plan n link session initiator ttl parts flooded.NoPlace k = k
flood_heard_real plan n link session initiator ttl parts flooded.New k =
    flood_on_real plan (flood_kept n session initiator ttl parts flooded.New) link session initiator ttl parts (told_real plan n session initiator ttl parts flooded.New k)

flood_real : (plan : NodePlan) (n : NodeState) (link session : ℕ) (initiator : Address) (ttl : ℕ) (parts : List FloodPart) → IsInRange plan n → IsInRange plan (after_flood n link session initiator ttl parts)
flood_real plan n link session initiator ttl parts k =
    let h = flood.heard_reply n.floods (origin_of session initiator) in
    either plan (same_address n.plan.address initiator) n (flood_heard n link session initiator ttl parts h) k (flood_heard_real plan n link session initiator ttl parts h k)

-- ---- a datagram

-- what the datagram carries is a message
abbrev pub IsCarried : Option Message → Type 0
IsCarried None = Unit {0}
IsCarried (Some m) = IsMessage m

datagram_of_real : (plan : NodePlan) (n : NodeState) (cause : Cause) (neighbour : Neighbour) (m : Option Message) → IsRealPlan plan → IsCarried m → IsInRange plan n → IsInRange plan (datagram_of n cause neighbour m)
datagram_of_real plan n cause neighbour (Some (Discovery session initiator o)) ok is k = discovery_real plan n cause neighbour session initiator o ok is.0 is.1 k
datagram_of_real plan n cause neighbour (Some (Flood session initiator ttl parts)) ok is k = flood_real plan n cause.link session initiator ttl parts k
datagram_of_real plan n cause neighbour _ ok is k = k

datagram_by_real : (plan : NodePlan) (n : NodeState) (cause : Cause) (m : Option Message) (o : Option Neighbour) → IsRealPlan plan → IsCarried m → IsInRange plan n → IsInRange plan (datagram_by n cause m o)
datagram_by_real plan n cause m None ok is k = k
datagram_by_real plan n cause m (Some neighbour) ok is k = datagram_of_real plan n cause neighbour m ok is k

pub datagram_real : (plan : NodePlan) (n : NodeState) (link from : ℕ) (m : Option Message) → IsRealPlan plan → IsCarried m → IsInRange plan n → IsInRange plan (after_datagram n link from m)
unfolding after_datagram
datagram_real plan n link from m ok is k = datagram_by_real plan n (record { link = link; from = from }) m (neighbour_at n link from) ok is k
