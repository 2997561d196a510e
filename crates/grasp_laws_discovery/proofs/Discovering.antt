-- Each datagram leaves it so: a discovery is answered with the node's own locator, or with cached ones.
use Rattle.std.proofs.Common.{◌≡◌, refl, ap, ℕ, ◌-◌, nat_le, not, ◌&&◌, Bool, true, false, cond, List, [], ◌∷◌, drop, length, Option, None, Some}
use Rattle.std.specs.List.{list_any}
use Rattle.std.proofs.Math.Seq.{drop-append_seam}
use Rattle.grasp_asa.specs.Answers.{flags_registered}
use Rattle.grasp_discovery.specs.Discoveries as discovery
use Rattle.grasp_discovery.specs.Discoveries.{Discoveries, known_of}
use Rattle.grasp_discovery.specs.Topic.{topic_of, kind_of}
use Rattle.grasp_discovery.specs.declared.answers.Cause.{Cause}
use Rattle.grasp_discovery.specs.declared.answers.Heard as answered
use Rattle.grasp_discovery.specs.declared.answers.Heard.TheVariants as discovered
use Rattle.grasp_discovery.specs.declared.memory.Memory.{Memory}
use Rattle.grasp_discovery.specs.declared.topic.Topic.{Topic}
use Rattle.grasp_flood.specs.Floods as flood
use Rattle.grasp_flood.specs.declared.heard.Heard as told
use Rattle.grasp_flood.specs.declared.heard.Heard.TheVariants as flooded
use Rattle.grasp_types.specs.Flood.{first_loops}
use Rattle.grasp_types.specs.Origin.{origin_of}
use Rattle.grasp_types.specs.Same.{same_address}
use Rattle.grasp_types.specs.declared.address.Address.{Address}
use Rattle.grasp_types.specs.declared.address.Locator.{Locator}
use Rattle.grasp_types.specs.declared.flood.FloodPart.{FloodPart}
use Rattle.grasp_types.specs.declared.links.Neighbour.{Neighbour}
use Rattle.grasp_types.specs.declared.message.Answer.TheVariants.{Divert}
use Rattle.grasp_types.specs.declared.message.Message.{Message}
use Rattle.grasp_types.specs.declared.message.Message.TheVariants.{Discovery, Response, Flood}
use Rattle.grasp_types.specs.declared.objective.Objective.{Objective}
use Rattle.grasp_types.specs.declared.origin.Origin.{Origin}
use Rattle.grasp_model_node.specs.Datagrams.{serves, lowered, discovery_relayed, own_response, discovery_passed, discovery_answered, discovery_kept, discovery_heard, is_dropped, after_discovery, loops_of, flood_relayed, flood_kept, flood_heard, after_flood, datagram_of, datagram_by, after_datagram}
use Rattle.grasp_model_node.specs.Hear.{neighbour_at}
use Rattle.grasp_model_node.specs.Moves.{with_discoveries, queue_up, dial_record, may_queue, relay, dial_with}
use Rattle.grasp_model_node.specs.Node.{NodeState}
use Rattle.grasp_model_node.specs.Queue.{Queued, dial, send, other_ways}
use Rattle.grasp_model_node.specs.Streams.{next_stream, is_dialled_out}
use Rattle.grasp_model_node.specs.declared.plan.NodePlan.{NodePlan}
use Rattle.grasp_model_network.specs.EventSteps.{is_own_answer}
use Rattle.grasp_laws_discovery.proofs.Keeping.{Silently, Keeps, either_keeps, discoveries_keeps, floods_keeps, relay_keeps, dialled_keeps, dial_with_keeps}

abbrev pub topic_in : Objective → Topic
topic_in o = topic_of o.name (kind_of o.flags)

-- other memories leave it so
abbrev pub KeepsMemories : (NodePlan → Discoveries → Type 0) → Type 0
KeepsMemories P = (plan : NodePlan) (d : Discoveries) (xs : List (Origin × Memory)) → P plan d → P plan (record d { memories = xs })

-- what may be queued in answer to a discovery: the node's own answer, where it serves what is asked for and such an answer is queued
-- then, and a divert of what is known
pub record MayAnswer (Q : Queued → Type 0) (n : NodeState) (session : ℕ) (initiator : Address) (o : Objective) (after : NodeState) : Type 0 where
  pub own : list_any is_own_answer (drop (length n.queue) after.queue) ≡ true → serves o.flags (flags_registered n.registrations o.name) ≡ true → (stream : ℕ) → Q (send stream (own_response n session initiator))
  pub divert : (known : List Locator × ℕ) → known_of n.discoveries (topic_in o) n.reading ≡ Some known → (stream : ℕ) → Q (send stream (Response session initiator known.1 (Divert known.0) None))

-- where the message that came is a discovery, Q holds of what may be queued in answer to it
abbrev pub MayTake : (Queued → Type 0) → NodeState → Option Message → NodeState → Type 0
MayTake Q n (Some (Discovery session initiator o)) after = MayAnswer Q n session initiator o after
MayTake Q n _ after = Unit {0}

-- the response that is dialled is the node's own
queued_own : (n : NodeState) (to : Locator) (session : ℕ) (initiator : Address)
    → list_any is_own_answer (drop (length n.queue) (dial_record (queue_up n (dial (next_stream n.streams) to ∷ send (next_stream n.streams) (own_response n session initiator) ∷ [])) None).queue) ≡ true
unfolding queue_up dial_record
queued_own n to session initiator =
    ap (list_any is_own_answer) (drop-append_seam n.queue (dial (next_stream n.streams) to ∷ send (next_stream n.streams) (own_response n session initiator) ∷ []))

module _ (old : List Queued) (Q : Queued → Type 0) (P : NodePlan → Discoveries → Type 0) (silent : Silently Q) (memories : KeepsMemories P) where
  -- ---- a discovery

  relayed_keeps : (n : NodeState) (link session : ℕ) (initiator : Address) (o : Objective) → Keeps old Q P n → Keeps old Q P (discovery_relayed n link session initiator o)
  relayed_keeps n link session initiator o k =
      let m = Discovery session initiator (lowered o) in
      let ways = other_ways link n.plan.links in
      either_keeps old Q P (nat_le 2 o.loops) (relay n m ways) n (relay_keeps old Q P silent n m ways k) k

  passed_keeps : (n : NodeState) (link : ℕ) (neighbour : Neighbour) (session : ℕ) (initiator : Address) (o : Objective) (known : Option (List Locator × ℕ))
      → ((told : List Locator × ℕ) → known ≡ Some told → (stream : ℕ) → Q (send stream (Response session initiator told.1 (Divert told.0) None))) → Keeps old Q P n
      → Keeps old Q P (discovery_passed n link neighbour session initiator o known)
  passed_keeps n link neighbour session initiator o None divert k = relayed_keeps n link session initiator o k
  passed_keeps n link neighbour session initiator o (Some known) divert k =
      dial_with_keeps old Q P silent n neighbour.locator (Response session initiator known.1 (Divert known.0) None) (divert known refl (next_stream n.streams)) k

  own_keeps : (n : NodeState) (to : Locator) (session : ℕ) (initiator : Address) (o : Objective) → serves o.flags (flags_registered n.registrations o.name) ≡ true
      → MayAnswer Q n session initiator o (dial_with n to (own_response n session initiator)) → Keeps old Q P n → Keeps old Q P (dial_with n to (own_response n session initiator))
  own_keeps n to session initiator o serving may k = by_room (may_queue n (own_response n session initiator) 2 && not (is_dialled_out n.streams)) may where
    dialled : NodeState
    dialled = dial_record (queue_up n (dial (next_stream n.streams) to ∷ send (next_stream n.streams) (own_response n session initiator) ∷ [])) None

    by_room : (b : Bool) → MayAnswer Q n session initiator o (cond b dialled n) → Keeps old Q P (cond b dialled n)
    by_room true is = dialled_keeps old Q P silent n to (own_response n session initiator) (is.own (queued_own n to session initiator) serving (next_stream n.streams)) k
    by_room false is = k

  answered_keeps : (n : NodeState) (link : ℕ) (neighbour : Neighbour) (session : ℕ) (initiator : Address) (o : Objective)
      → MayAnswer Q n session initiator o (discovery_answered n link neighbour session initiator o) → Keeps old Q P n → Keeps old Q P (discovery_answered n link neighbour session initiator o)
  answered_keeps n link neighbour session initiator o may k = by_serving (serves o.flags (flags_registered n.registrations o.name)) refl may where
    passed : NodeState
    passed = discovery_passed n link neighbour session initiator o (known_of n.discoveries (topic_in o) n.reading)

    by_serving : (b : Bool) → serves o.flags (flags_registered n.registrations o.name) ≡ b → MayAnswer Q n session initiator o (cond b (dial_with n neighbour.locator (own_response n session initiator)) passed)
        → Keeps old Q P (cond b (dial_with n neighbour.locator (own_response n session initiator)) passed)
    by_serving true serving is = own_keeps n neighbour.locator session initiator o serving is k
    by_serving false serving is = passed_keeps n link neighbour session initiator o (known_of n.discoveries (topic_in o) n.reading) is.divert k

  -- so may the node that remembers it
  kept_may : (n after : NodeState) (cause : Cause) (session : ℕ) (initiator : Address) (o : Objective) → MayAnswer Q n session initiator o after
      → MayAnswer Q (discovery_kept n cause session initiator o) session initiator o after
  unfolding with_discoveries
  kept_may n after cause session initiator o may = record { own = may.own; divert = may.divert }

  heard_keeps : (n : NodeState) (cause : Cause) (neighbour : Neighbour) (session : ℕ) (initiator : Address) (o : Objective) (h : answered.Heard)
      → MayAnswer Q n session initiator o (discovery_heard n cause neighbour session initiator o h) → Keeps old Q P n → Keeps old Q P (discovery_heard n cause neighbour session initiator o h)
  heard_keeps n cause neighbour session initiator o discovered.Known may k = k
  heard_keeps n cause neighbour session initiator o discovered.NoPlace may k = k
  heard_keeps n cause neighbour session initiator o discovered.New may k =
      let d = discovery.after_heard n.discoveries (origin_of session initiator) (discovery.memory_from n.reading cause o) discovered.New in
      answered_keeps (discovery_kept n cause session initiator o) cause.link neighbour session initiator o
      (kept_may n (discovery_answered (discovery_kept n cause session initiator o) cause.link neighbour session initiator o) cause session initiator o may)
      (discoveries_keeps old Q P n d (memories n.plan n.discoveries d.memories k.has) k)

  discovery_keeps : (n : NodeState) (cause : Cause) (neighbour : Neighbour) (session : ℕ) (initiator : Address) (o : Objective)
      → MayAnswer Q n session initiator o (after_discovery n cause neighbour session initiator o) → Keeps old Q P n → Keeps old Q P (after_discovery n cause neighbour session initiator o)
  discovery_keeps n cause neighbour session initiator o may k = by_test (is_dropped n initiator o.flags) may where
    heard : NodeState
    heard = discovery_heard n cause neighbour session initiator o (discovery.heard_reply n.discoveries (origin_of session initiator))

    by_test : (b : Bool) → MayAnswer Q n session initiator o (cond b n heard) → Keeps old Q P (cond b n heard)
    by_test true is = k
    by_test false is = heard_keeps n cause neighbour session initiator o (discovery.heard_reply n.discoveries (origin_of session initiator)) is k

  -- ---- a flood

  flood_on_keeps : (n : NodeState) (link session : ℕ) (initiator : Address) (ttl : ℕ) (parts : List FloodPart) → Keeps old Q P n → Keeps old Q P (flood_relayed n link session initiator ttl parts)
  flood_on_keeps n link session initiator ttl parts k =
      let m = Flood session initiator ttl (first_loops parts (loops_of parts - 1)) in
      let ways = other_ways link n.plan.links in
      either_keeps old Q P (nat_le 2 (loops_of parts)) (relay n m ways) n (relay_keeps old Q P silent n m ways k) k

  told_keeps : (n : NodeState) (session : ℕ) (initiator : Address) (ttl : ℕ) (parts : List FloodPart) (h : told.Heard) → Keeps old Q P n → Keeps old Q P (flood_kept n session initiator ttl parts h)
  told_keeps n session initiator ttl parts h k = floods_keeps old Q P n (flood.after_heard n.floods n.reading (origin_of session initiator) ttl parts h) k

  flood_heard_keeps : (n : NodeState) (link session : ℕ) (initiator : Address) (ttl : ℕ) (parts : List FloodPart) (h : told.Heard) → Keeps old Q P n
      → Keeps old Q P (flood_heard n link session initiator ttl parts h)
  flood_heard_keeps n link session initiator ttl parts flooded.Known k = told_keeps n session initiator ttl parts flooded.Known k
  flood_heard_keeps n link session initiator ttl parts flooded.NoPlace k = k
  flood_heard_keeps n link session initiator ttl parts flooded.New k =
      flood_on_keeps (flood_kept n session initiator ttl parts flooded.New) link session initiator ttl parts (told_keeps n session initiator ttl parts flooded.New k)

  flood_keeps : (n : NodeState) (link session : ℕ) (initiator : Address) (ttl : ℕ) (parts : List FloodPart) → Keeps old Q P n → Keeps old Q P (after_flood n link session initiator ttl parts)
  flood_keeps n link session initiator ttl parts k =
      let h = flood.heard_reply n.floods (origin_of session initiator) in
      either_keeps old Q P (same_address n.plan.address initiator) n (flood_heard n link session initiator ttl parts h) k (flood_heard_keeps n link session initiator ttl parts h k)

  -- ---- a datagram

  of_keeps : (n : NodeState) (cause : Cause) (neighbour : Neighbour) (m : Option Message) → MayTake Q n m (datagram_of n cause neighbour m) → Keeps old Q P n
      → Keeps old Q P (datagram_of n cause neighbour m)
  of_keeps n cause neighbour (Some (Discovery session initiator o)) is k = discovery_keeps n cause neighbour session initiator o is k
  of_keeps n cause neighbour (Some (Flood session initiator ttl parts)) is k = flood_keeps n cause.link session initiator ttl parts k
  of_keeps n cause neighbour _ is k = k

  by_keeps : (n : NodeState) (cause : Cause) (m : Option Message) (o : Option Neighbour) → MayTake Q n m (datagram_by n cause m o) → Keeps old Q P n → Keeps old Q P (datagram_by n cause m o)
  by_keeps n cause m None is k = k
  by_keeps n cause m (Some neighbour) is k = of_keeps n cause neighbour m is k

  pub datagram_keeps : (n : NodeState) (link from : ℕ) (m : Option Message) → MayTake Q n m (after_datagram n link from m) → Keeps old Q P n → Keeps old Q P (after_datagram n link from m)
  unfolding after_datagram
  datagram_keeps n link from m is k = by_keeps n (record { link = link; from = from }) m (neighbour_at n link from) is k
