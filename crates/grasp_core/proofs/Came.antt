-- What comes by datagram, and what it leaves.
use Rattle.std.proofs.Common.{◌≡◌, ℕ, ◌-◌, Bool, true, false, nat_le, List, length, Option, Some, None, Result, Ok, Err, ◌⊎◌, inl, inr, refl, sym, subst}
use Rattle.grasp_asa.specs.Answers.{flags_registered}
use Rattle.grasp_cbor.specs.Bytes.{AllBytes}
use Rattle.grasp_discovery.specs.Discoveries as discovery
use Rattle.grasp_discovery.specs.declared.answers.Cause.{Cause}
use Rattle.grasp_discovery.specs.declared.answers.Heard as answered
use Rattle.grasp_discovery.specs.declared.answers.Heard.TheVariants as discovered
use Rattle.grasp_flood.specs.Floods as flood
use Rattle.grasp_flood.specs.declared.heard.Heard as told
use Rattle.grasp_flood.specs.declared.heard.Heard.TheVariants as flooded
use Rattle.grasp_types.specs.Origin.{origin_of}
use Rattle.grasp_types.specs.declared.address.Address.{Address}
use Rattle.grasp_types.specs.declared.address.Locator.{Locator}
use Rattle.grasp_types.specs.declared.flood.FloodPart.{FloodPart}
use Rattle.grasp_types.specs.declared.links.Neighbour.{Neighbour}
use Rattle.grasp_types.specs.Flood.{first_loops}
use Rattle.grasp_types.specs.declared.message.Message.{Message}
use Rattle.grasp_types.specs.declared.message.Message.TheVariants as message
use Rattle.grasp_types.specs.declared.objective.Objective.{Objective}
use Rattle.grasp_wire.proofs.Datagrams.{forms_are_decoded}
use Rattle.grasp_wire.specs.One.{AnswersOne}
use Rattle.grasp_wire.specs.declared.fault.CutFault.TheVariants as cut
use Rattle.grasp_wire.specs.declared.fault.OneFault.{OneFault}
use Rattle.grasp_wire.specs.declared.fault.OneFault.TheVariants.{Cut}
use Rattle.grasp_core.specs.Carried.{where_new, flood_sent, known_at, relayed_kept, passed_kept}
use Rattle.grasp_model_node.specs.Datagrams.{Carries, serves, lowered, own_response, discovery_kept, discovery_answered, discovery_heard, flood_kept, flood_heard, loops_of, datagram_by, after_datagram}
use Rattle.grasp_model_node.specs.Hear.{neighbour_at}
use Rattle.grasp_model_node.specs.Moves.{with_discoveries, with_floods, dial_with, relay, may_queue}
use Rattle.grasp_model_node.specs.Node.{NodeState}
use Rattle.grasp_model_node.specs.Queue.{other_ways}
use Rattle.grasp_core.specs.Ready.{MayRelay, others}
use Rattle.grasp_core.specs.Stands.{NodeStands}
use Rattle.grasp_core.specs.declared.node_core.NodeCore.{NodeCore}

-- a message was decoded: it is what the datagram carries
pub carries_it : (limit : ℕ) (bytes : List ℕ) (carried : Option Message) (m : Message) → AllBytes bytes → Carries limit bytes carried → AnswersOne bytes limit (Ok m) → carried ≡ Some m
carries_it limit bytes None m all c form = absurd (c m form)
carries_it limit bytes (Some other) m all c form = by_answer (Ok m) refl (forms_are_decoded other bytes limit (Ok m) all c form) where
  by_answer : (r : Result Message OneFault) → r ≡ Ok m → (r ≡ Ok other) ⊎ (r ≡ Err (Cut cut.OutOfMemory)) → Some other ≡ Some m
  by_answer r f (inl e) = cc
  by_answer r f (inr e) = absurd (cc)

-- no message was decoded, and memory wasn't wanted: it carries none
pub carries_none : (limit : ℕ) (bytes : List ℕ) (carried : Option Message) (fault : OneFault) → AllBytes bytes → Carries limit bytes carried → AnswersOne bytes limit (Err fault) → ¬ (fault ≡ Cut cut.OutOfMemory) → carried ≡ None
carries_none limit bytes None fault all c answers other = refl
carries_none limit bytes (Some m) fault all c answers other = by_answer (Err fault) refl (forms_are_decoded m bytes limit (Err fault) all c answers) where
  by_answer : (r : Result Message OneFault) → r ≡ Err fault → (r ≡ Ok m) ⊎ (r ≡ Err (Cut cut.OutOfMemory)) → Some m ≡ None
  by_answer r f (inl e) = absurd (cc)
  by_answer r f (inr e) = let same : fault ≡ Cut cut.OutOfMemory = cc in absurd (other same)

-- a datagram that carries no message changes nothing
pub nothing_carried : (n : NodeState) (link from : ℕ) → after_datagram n link from None ≡ n
unfolding after_datagram
nothing_carried n link from = by_neighbour (neighbour_at n link from) where
  by_neighbour : (o : Option Neighbour) → datagram_by n (record { link = link; from = from }) None o ≡ n
  by_neighbour None = refl
  by_neighbour (Some neighbour) = refl

-- a discovery that is served
pub served : (core : NodeCore) (n : NodeState) (cause : Cause) (neighbour : Neighbour) (session : ℕ) (initiator : Address) (o : Objective) (reply : answered.Heard) → serves o.flags (flags_registered n.registrations o.name) ≡ true
    → NodeStands core (where_new n (dial_with (discovery_kept n cause session initiator o) neighbour.locator (own_response n session initiator)) reply)
    → NodeStands core (discovery_heard n cause neighbour session initiator o reply)
unfolding with_discoveries
served core n cause neighbour session initiator o discovered.Known e h = h
served core n cause neighbour session initiator o discovered.NoPlace e h = h
served core n cause neighbour session initiator o discovered.New e h = rw e h

-- one that is passed on, or isn't
passed_new : (core : NodeCore) (n : NodeState) (cause : Cause) (neighbour : Neighbour) (session : ℕ) (initiator : Address) (o : Objective) (known : Option (List Locator × ℕ)) → known_at n o ≡ known
    → serves o.flags (flags_registered n.registrations o.name) ≡ false
    → NodeStands core (passed_kept n cause neighbour.locator session initiator o known)
    → NodeStands core (discovery_answered (discovery_kept n cause session initiator o) cause.link neighbour session initiator o)
unfolding with_discoveries
passed_new core n cause neighbour session initiator o None k e h = rw (e, k) h
passed_new core n cause neighbour session initiator o (Some known) k e h = rw (e, k) h

pub passed : (core : NodeCore) (n : NodeState) (cause : Cause) (neighbour : Neighbour) (session : ℕ) (initiator : Address) (o : Objective) (reply : answered.Heard) → serves o.flags (flags_registered n.registrations o.name) ≡ false
    → NodeStands core (where_new n (passed_kept n cause neighbour.locator session initiator o (known_at n o)) reply)
    → NodeStands core (discovery_heard n cause neighbour session initiator o reply)
passed core n cause neighbour session initiator o discovered.Known e h = h
passed core n cause neighbour session initiator o discovered.NoPlace e h = h
passed core n cause neighbour session initiator o discovered.New e h = passed_new core n cause neighbour session initiator o (known_at n o) refl e h

-- what becomes of a discovery that is remembered
pub remembered : (all : discovery.Discoveries) (session : ℕ) (initiator : Address) → true ≡ discovery.remembers all (origin_of session initiator) → discovery.heard_reply all (origin_of session initiator) ≡ discovered.Known
remembered all session initiator e = rw (sym e) refl

-- a flood that isn't sent on
pub kept_few : (core : NodeCore) (n : NodeState) (link session : ℕ) (initiator : Address) (ttl : ℕ) (parts : List FloodPart) (reply : told.Heard) → nat_le 2 (loops_of parts) ≡ false
    → NodeStands core (flood_kept n session initiator ttl parts reply) → NodeStands core (flood_heard n link session initiator ttl parts reply)
unfolding with_floods
kept_few core n link session initiator ttl parts flooded.Known e h = h
kept_few core n link session initiator ttl parts flooded.NoPlace e h = h
kept_few core n link session initiator ttl parts flooded.New e h = rw e h

pub kept_known : (core : NodeCore) (n : NodeState) (link session : ℕ) (initiator : Address) (ttl : ℕ) (parts : List FloodPart) → true ≡ flood.remembers n.floods (origin_of session initiator)
    → NodeStands core (flood_kept n session initiator ttl parts (flood.heard_reply n.floods (origin_of session initiator)))
    → NodeStands core (flood_heard n link session initiator ttl parts (flood.heard_reply n.floods (origin_of session initiator)))
kept_known core n link session initiator ttl parts e h =
    let known : flood.heard_reply n.floods (origin_of session initiator) ≡ flooded.Known = rw (sym e) refl in
    rw known (rw known at h)

pub sent_kept : (core : NodeCore) (n : NodeState) (link session : ℕ) (initiator : Address) (ttl : ℕ) (parts : List FloodPart) (m : Message) (reply : told.Heard) → nat_le 2 (loops_of parts) ≡ true
    → m ≡ message.Flood session initiator ttl (first_loops parts (loops_of parts - 1))
    → NodeStands core (flood_sent n link session initiator ttl parts m reply) → NodeStands core (flood_heard n link session initiator ttl parts reply)
unfolding with_floods
sent_kept core n link session initiator ttl parts m flooded.Known e f h = h
sent_kept core n link session initiator ttl parts m flooded.NoPlace e f h = h
sent_kept core n link session initiator ttl parts m flooded.New e f h = rw e (rw f at h)

pub flood_known : (core : NodeCore) (n : NodeState) (link session : ℕ) (initiator : Address) (ttl : ℕ) (parts : List FloodPart) (m : Message) (reply : told.Heard) → flooded.Known ≡ reply
    → NodeStands core (flood_kept n session initiator ttl parts flooded.Known)
    → NodeStands core (flood_sent n link session initiator ttl parts m reply)
flood_known core n link session initiator ttl parts m reply e h = subst (λ (x : told.Heard). NodeStands core (flood_sent n link session initiator ttl parts m x)) e h

pub flood_lost : (core : NodeCore) (n : NodeState) (link session : ℕ) (initiator : Address) (ttl : ℕ) (parts : List FloodPart) (m : Message) (reply : told.Heard) → flooded.NoPlace ≡ reply
    → NodeStands core (flood_kept n session initiator ttl parts flooded.NoPlace)
    → NodeStands core (flood_sent n link session initiator ttl parts m reply)
unfolding with_floods
flood_lost core n link session initiator ttl parts m reply e h = subst (λ (x : told.Heard). NodeStands core (flood_sent n link session initiator ttl parts m x)) e h

-- whether a message may be relayed
pub relays : (core : NodeCore) (n : NodeState) (link : ℕ) (m : Message) (may : Bool) → MayRelay core.queue core.streams.limit (length (others link core.ways.items)) m may → NodeStands core n
    → may_queue n m (length (other_ways link n.plan.links)) ≡ may
relays core n link m may can h = rw (h.limit, h.ways) at (can n.queue h.queue)

-- a discovery whose loop count allows it to be sent on
pub relayed : (core : NodeCore) (n : NodeState) (cause : Cause) (session : ℕ) (initiator : Address) (o : Objective) (m : Message) (reply : answered.Heard) → nat_le 2 o.loops ≡ true → m ≡ message.Discovery session initiator (lowered o)
    → NodeStands core (where_new n (relay (discovery_kept n cause session initiator o) m (other_ways cause.link n.plan.links)) reply)
    → NodeStands core (where_new n (relayed_kept n cause session initiator o) reply)
relayed core n cause session initiator o m reply e f h = rw e (rw f at h)
