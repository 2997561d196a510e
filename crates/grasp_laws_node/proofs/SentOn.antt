-- What a datagram queues, and which memories grow by it.
use Rattle.std.proofs.Common.{◌≡◌, ℕ, ◌-◌, ◌≤◌, ◌<◌, Bool, true, false, cond, not, ◌&&◌, ◌||◌, nat_le, nat_lt, ◌⊎◌, inl, inr, List, [], ◌∷◌, ◌++◌, length, Option, None, Some, refl, sym, ap, ◌∙◌, subst}
use Rattle.std.specs.List.{list_any}
use Rattle.std.specs.Prelude.{Contains}
use Rattle.std.proofs.lemmas.List.{append-nil}
use Rattle.std.proofs.lemmas.Bool.Decides.{leb_tells}
use Rattle.std.proofs.lemmas.List.Elements.{Contains-append_left}
use Rattle.std.proofs.lemmas.List.Folds.{list_any-append}
use Rattle.std.proofs.Math.Bool.{or-true}
use Rattle.grasp_asa.specs.Answers.{flags_registered}
use Rattle.grasp_discovery.specs.Discoveries as discovery
use Rattle.grasp_discovery.specs.Topic.{topic_of, kind_of}
use Rattle.grasp_discovery.specs.declared.answers.Cause.{Cause}
use Rattle.grasp_discovery.specs.declared.answers.Heard as answered
use Rattle.grasp_discovery.specs.declared.answers.Heard.TheVariants as discovered
use Rattle.grasp_discovery.specs.declared.memory.Memory.{Memory}
use Rattle.grasp_flood.specs.Floods as flood
use Rattle.grasp_flood.specs.declared.heard.Heard as told
use Rattle.grasp_flood.specs.declared.heard.Heard.TheVariants as flooded
use Rattle.grasp_types.proofs.Same.{same_origin_decides}
use Rattle.grasp_types.specs.Flood.{first_loops}
use Rattle.grasp_types.specs.Origin.{origin_of}
use Rattle.grasp_types.specs.Reading.{reading_after}
use Rattle.grasp_types.specs.Same.{same_address, same_origin}
use Rattle.grasp_types.specs.declared.address.Address.{Address}
use Rattle.grasp_types.specs.declared.address.Locator.{Locator}
use Rattle.grasp_types.specs.declared.flood.FloodPart.{FloodPart}
use Rattle.grasp_types.specs.declared.links.Neighbour.{Neighbour}
use Rattle.grasp_types.specs.declared.message.Answer.{Answer}
use Rattle.grasp_types.specs.declared.message.Answer.TheVariants.{Locators, Divert}
use Rattle.grasp_types.specs.declared.message.Message.{Message}
use Rattle.grasp_types.specs.declared.message.Message.TheVariants.{Noop, Discovery, Response, ReqNeg, ReqSyn, Negotiate, End, Wait, Synch, Flood, Invalid}
use Rattle.grasp_types.specs.declared.objective.Objective.{Objective}
use Rattle.grasp_types.specs.declared.origin.Origin.{Origin}
use Rattle.grasp_types.specs.declared.reply.Reply.{Reply}
use Rattle.grasp_types.specs.declared.reply.Reply.TheVariants as reply
use Rattle.grasp_model_node.specs.Datagrams.{serves, lowered, own_response, discovery_passed, discovery_answered, discovery_kept, discovery_heard, is_dropped, after_discovery, loops_of, flood_relayed, flood_kept, flood_heard, after_flood, datagram_of, datagram_by, after_datagram}
use Rattle.grasp_model_node.specs.Hear.{neighbour_at}
use Rattle.grasp_model_node.specs.Moves.{with_discoveries, with_floods, queue_up, dial_record, may_queue, relay, dial_with}
use Rattle.grasp_model_node.specs.Node.{NodeState}
use Rattle.grasp_model_node.specs.Queue.{Queued, dial, send, along, other_ways}
use Rattle.grasp_laws_node.specs.Relays.{Responds, SendsOn, DiscoveryQueues, FloodQueues, DatagramQueues, KeepsMemories}
use Rattle.grasp_model_node.specs.Step.{Coming, TakesDatagram}
use Rattle.grasp_model_node.specs.Streams.{is_dialled_out, next_stream}

-- ---- memories that grow

-- memories are added behind the others
pub record Grows (n after : NodeState) : Type 0 where
  pub remembered : List (Origin × Memory)
  pub discoveries : after.discoveries.memories ≡ n.discoveries.memories ++ remembered
  pub told : List (Origin × ℕ)
  pub floods : after.floods.memories ≡ n.floods.memories ++ told

pub as_before : (n after : NodeState) → after.discoveries.memories ≡ n.discoveries.memories → after.floods.memories ≡ n.floods.memories → Grows n after
as_before n after d f = record {
  remembered = [];
  discoveries = d ∙ sym (append-nil n.discoveries.memories);
  told = [];
  floods = f ∙ sym (append-nil n.floods.memories);
}

still_any : {A : Type 0} (origin : Origin) (xs ys : List (Origin × A)) → list_any (λ memory. same_origin origin memory.0) xs ≡ true → list_any (λ memory. same_origin origin memory.0) (xs ++ ys) ≡ true
still_any origin xs ys e =
    list_any-append (λ memory. same_origin origin memory.0) xs ys ∙ ap (λ b. b || list_any (λ memory. same_origin origin memory.0) ys) e

pub keeps : (n after : NodeState) → Grows n after → KeepsMemories n after
keeps n after g = record {
  discoveries = λ memory h. subst (λ l. Contains l memory) (sym g.discoveries) (Contains-append_left n.discoveries.memories g.remembered memory h);
  floods = λ memory h. subst (λ l. Contains l memory) (sym g.floods) (Contains-append_left n.floods.memories g.told memory h);
  discovery_stays = λ origin e. ap (list_any (λ memory. same_origin origin memory.0)) g.discoveries ∙ still_any origin n.discoveries.memories g.remembered e;
  flood_stays = λ origin e. ap (list_any (λ memory. same_origin origin memory.0)) g.floods ∙ still_any origin n.floods.memories g.told e;
}

-- one that was remembered last is remembered
last_is_kept : {A : Type 0} (origin : Origin) (value : A) (memories : List (Origin × A)) → list_any (λ memory. same_origin origin memory.0) (memories ++ (origin, value) ∷ []) ≡ true
last_is_kept {A} origin value memories =
    list_any-append (λ memory. same_origin origin memory.0) memories ((origin, value) ∷ [])
    ∙ (ap (λ b. list_any (λ (memory : Origin × A). same_origin origin memory.0) memories || (b || false)) ((same_origin_decides origin origin).1 refl)
    ∙ or-true (list_any (λ (memory : Origin × A). same_origin origin memory.0) memories))

-- ---- moves

-- nothing is queued, or this; and nothing that is remembered changes
record Does (What : NodeState → Type 0) (n after : NodeState) : Type 0 where
  pub what : (after.queue ≡ n.queue) ⊎ What after
  pub discoveries : after.discoveries ≡ n.discoveries
  pub floods : after.floods ≡ n.floods

nothing : (What : NodeState → Type 0) (n : NodeState) → Does What n n
nothing What n = record { what = inl refl; discoveries = refl; floods = refl }

either : (What : NodeState → Type 0) (n : NodeState) (b : Bool) (x y : NodeState) → (b ≡ true → Does What n x) → Does What n y → Does What n (cond b x y)
either What n true x y h k = h refl
either What n false x y h k = k

-- these outputs are queued behind those that were queued
abbrev Puts : NodeState → List Queued → NodeState → Type 0
Puts n outputs after = after.queue ≡ n.queue ++ outputs

queues : (What : NodeState → Type 0) (n : NodeState) (outputs : List Queued) → (Puts n outputs (queue_up n outputs) → What (queue_up n outputs)) → Does What n (queue_up n outputs)
unfolding queue_up
queues What n outputs h = record { what = inr (h refl); discoveries = refl; floods = refl }

dials : (What : NodeState → Type 0) (n : NodeState) (outputs : List Queued) → (Puts n outputs (dial_record (queue_up n outputs) None) → What (dial_record (queue_up n outputs) None))
    → Does What n (dial_record (queue_up n outputs) None)
unfolding queue_up dial_record
dials What n outputs h = record { what = inr (h refl); discoveries = refl; floods = refl }

two_or_more : (loops : ℕ) → nat_le 2 loops ≡ true → 2 ≤ loops
two_or_more loops e = by (leb_tells 2 loops) where
  by : ((nat_le 2 loops ≡ true) × (2 ≤ loops)) ⊎ ((nat_le 2 loops ≡ false) × (loops < 2)) → 2 ≤ loops
  by (inl h) = h.1
  by (inr h) = let clash : true ≡ false = sym e ∙ h.0 in absurd (cc)

relays : (What : NodeState → Type 0) (n : NodeState) (link loops : ℕ) (m : Message) → ((after : NodeState) → SendsOn n link loops m after → What after)
    → Does What n (cond (nat_le 2 loops) (relay n m (other_ways link n.plan.links)) n)
relays What n link loops m h =
    either What n (nat_le 2 loops) (relay n m (other_ways link n.plan.links)) n
    (λ e. either What n (may_queue n m (length (other_ways link n.plan.links))) (queue_up n (along m (other_ways link n.plan.links))) n
    (λ r. queues What n (along m (other_ways link n.plan.links)) (λ q. h (queue_up n (along m (other_ways link n.plan.links))) (record { loops_left = two_or_more loops e; queued = q })))
    (nothing What n))
    (nothing What n)

dials_with : (What : NodeState → Type 0) (n : NodeState) (to : Locator) (m : Message)
    → ((after : NodeState) → Puts n (dial (next_stream n.streams) to ∷ send (next_stream n.streams) m ∷ []) after → What after) → Does What n (dial_with n to m)
dials_with What n to m h =
    either What n (may_queue n m 2 && not (is_dialled_out n.streams)) (dial_record (queue_up n (dial (next_stream n.streams) to ∷ send (next_stream n.streams) m ∷ [])) None) n
    (λ e. dials What n (dial (next_stream n.streams) to ∷ send (next_stream n.streams) m ∷ [])
    (h (dial_record (queue_up n (dial (next_stream n.streams) to ∷ send (next_stream n.streams) m ∷ [])) None)))
    (nothing What n)

-- ---- a discovery

abbrev Answered : NodeState → ℕ → ℕ → ℕ → Address → Objective → NodeState → Type 0
Answered n link from session initiator o after = Responds n link from session initiator after ⊎ SendsOn n link o.loops (Discovery session initiator (lowered o)) after

responds : (n : NodeState) (link from session : ℕ) (initiator : Address) (o : Objective) (neighbour : Neighbour) (ttl : ℕ) (a : Answer) → neighbour_at n link from ≡ Some neighbour
    → Does (Answered n link from session initiator o) n (dial_with n neighbour.locator (Response session initiator ttl a None))
responds n link from session initiator o neighbour ttl a e =
    dials_with (Answered n link from session initiator o) n neighbour.locator (Response session initiator ttl a None)
    (λ after q. inl (record { neighbour = neighbour; came_from = e; ttl = ttl; told = a; queued = q }))

passes : (n : NodeState) (link from session : ℕ) (initiator : Address) (o : Objective) (neighbour : Neighbour) (known : Option (List Locator × ℕ)) → neighbour_at n link from ≡ Some neighbour
    → Does (Answered n link from session initiator o) n (discovery_passed n link neighbour session initiator o known)
passes n link from session initiator o neighbour None e =
    relays (Answered n link from session initiator o) n link o.loops (Discovery session initiator (lowered o)) (λ after s. inr s)
passes n link from session initiator o neighbour (Some known) e = responds n link from session initiator o neighbour known.1 (Divert known.0) e

answers : (n : NodeState) (link from session : ℕ) (initiator : Address) (o : Objective) (neighbour : Neighbour) → neighbour_at n link from ≡ Some neighbour
    → Does (Answered n link from session initiator o) n (discovery_answered n link neighbour session initiator o)
answers n link from session initiator o neighbour e =
    either (Answered n link from session initiator o) n (serves o.flags (flags_registered n.registrations o.name)) (dial_with n neighbour.locator (own_response n session initiator))
    (discovery_passed n link neighbour session initiator o (discovery.known_of n.discoveries (topic_of o.name (kind_of o.flags)) n.reading))
    (λ s. responds n link from session initiator o neighbour 60000 (Locators (n.plan.locator ∷ [])) e)
    (passes n link from session initiator o neighbour (discovery.known_of n.discoveries (topic_of o.name (kind_of o.flags)) n.reading) e)

-- what is queued is as asked, and the memories grow
abbrev Hears : (NodeState → Type 0) → NodeState → NodeState → Type 0
Hears What n after = What after × Grows n after

silent : (What : NodeState → Type 0) (n : NodeState) → ((n.queue ≡ n.queue) → What n) → Hears What n n
silent What n h = (h refl, as_before n n refl refl)

-- a new one wasn't remembered
was_new : (all : discovery.Discoveries) (origin : Origin) → discovery.heard_reply all origin ≡ discovered.New → discovery.remembers all origin ≡ false
was_new all origin e = by (discovery.remembers all origin) e where
  by : (b : Bool) → cond b discovered.Known (cond (nat_lt (length all.memories) 256) discovered.New discovered.NoPlace) ≡ discovered.New → b ≡ false
  by true f = absurd (cc)
  by false f = refl

remembers_it : (n after : NodeState) (cause : Cause) (session : ℕ) (initiator : Address) (o : Objective) → discovery.heard_reply n.discoveries (origin_of session initiator) ≡ discovered.New
    → Does (Answered (discovery_kept n cause session initiator o) cause.link cause.from session initiator o) (discovery_kept n cause session initiator o) after
    → Hears (DiscoveryQueues n cause.link cause.from session initiator o) n after
unfolding with_discoveries
remembers_it n after cause session initiator o new d = (
  by d.what,
  record {
    remembered = (origin_of session initiator, discovery.memory_from n.reading cause o) ∷ [];
    discoveries = ap (λ (x : discovery.Discoveries). x.memories) d.discoveries;
    told = [];
    floods = ap (λ (x : flood.Floods). x.memories) d.floods ∙ sym (append-nil n.floods.memories);
  },
) where
  now_is : discovery.remembers after.discoveries (origin_of session initiator) ≡ true
  now_is =
      ap (λ x. discovery.remembers x (origin_of session initiator)) d.discoveries
      ∙ last_is_kept (origin_of session initiator) (discovery.memory_from n.reading cause o) n.discoveries.memories

  at_once : Responds (discovery_kept n cause session initiator o) cause.link cause.from session initiator after → Responds n cause.link cause.from session initiator after
  at_once r = record { neighbour = r.neighbour; came_from = r.came_from; ttl = r.ttl; told = r.told; queued = r.queued }

  further : SendsOn (discovery_kept n cause session initiator o) cause.link o.loops (Discovery session initiator (lowered o)) after
      → SendsOn n cause.link o.loops (Discovery session initiator (lowered o)) after
  further s = record { loops_left = s.loops_left; queued = s.queued }

  by : (after.queue ≡ n.queue) ⊎ Answered (discovery_kept n cause session initiator o) cause.link cause.from session initiator o after
      → DiscoveryQueues n cause.link cause.from session initiator o after
  by (inl e) = inl e
  by (inr (inl r)) = inr (inl (at_once r), was_new n.discoveries (origin_of session initiator) new, now_is)
  by (inr (inr s)) = inr (inr (further s), was_new n.discoveries (origin_of session initiator) new, now_is)

same_neighbour : (n : NodeState) (d : discovery.Discoveries) (link from : ℕ) → neighbour_at (with_discoveries n d) link from ≡ neighbour_at n link from
unfolding with_discoveries
same_neighbour n d link from = refl

hears_discovery : (n : NodeState) (cause : Cause) (neighbour : Neighbour) (session : ℕ) (initiator : Address) (o : Objective) (heard : answered.Heard) → neighbour_at n cause.link cause.from ≡ Some neighbour
    → discovery.heard_reply n.discoveries (origin_of session initiator) ≡ heard
    → Hears (DiscoveryQueues n cause.link cause.from session initiator o) n (discovery_heard n cause neighbour session initiator o heard)
hears_discovery n cause neighbour session initiator o discovered.Known e f = silent (DiscoveryQueues n cause.link cause.from session initiator o) n inl
hears_discovery n cause neighbour session initiator o discovered.NoPlace e f = silent (DiscoveryQueues n cause.link cause.from session initiator o) n inl
hears_discovery n cause neighbour session initiator o discovered.New e f =
    remembers_it n (discovery_answered (discovery_kept n cause session initiator o) cause.link neighbour session initiator o) cause session initiator o f
    (answers (discovery_kept n cause session initiator o) cause.link cause.from session initiator o neighbour
    (same_neighbour n (discovery.after_heard n.discoveries (origin_of session initiator) (discovery.memory_from n.reading cause o) discovered.New) cause.link cause.from ∙ e))

takes_discovery : (n : NodeState) (cause : Cause) (neighbour : Neighbour) (session : ℕ) (initiator : Address) (o : Objective) → neighbour_at n cause.link cause.from ≡ Some neighbour
    → Hears (DiscoveryQueues n cause.link cause.from session initiator o) n (after_discovery n cause neighbour session initiator o)
takes_discovery n cause neighbour session initiator o e = by (is_dropped n initiator o.flags) where
  by : (b : Bool) → Hears (DiscoveryQueues n cause.link cause.from session initiator o) n
      (cond b n (discovery_heard n cause neighbour session initiator o (discovery.heard_reply n.discoveries (origin_of session initiator))))
  by true = silent (DiscoveryQueues n cause.link cause.from session initiator o) n inl
  by false = hears_discovery n cause neighbour session initiator o (discovery.heard_reply n.discoveries (origin_of session initiator)) e refl

-- ---- a flood

flood_was_new : (all : flood.Floods) (origin : Origin) → flood.heard_reply all origin ≡ flooded.New → flood.remembers all origin ≡ false
flood_was_new all origin e = by (flood.remembers all origin) e where
  by : (b : Bool) → cond b flooded.Known (cond (nat_lt (length all.memories) 256) flooded.New flooded.NoPlace) ≡ flooded.New → b ≡ false
  by true f = absurd (cc)
  by false f = refl

abbrev FloodSent : NodeState → ℕ → ℕ → Address → ℕ → List FloodPart → NodeState → Type 0
FloodSent n link session initiator ttl parts after = SendsOn n link (loops_of parts) (Flood session initiator ttl (first_loops parts (loops_of parts - 1))) after

relays_flood : (n : NodeState) (link session : ℕ) (initiator : Address) (ttl : ℕ) (parts : List FloodPart)
    → Does (FloodSent n link session initiator ttl parts) n (flood_relayed n link session initiator ttl parts)
relays_flood n link session initiator ttl parts =
    relays (FloodSent n link session initiator ttl parts) n link (loops_of parts) (Flood session initiator ttl (first_loops parts (loops_of parts - 1))) (λ after s. s)

remembers_flood : (n after : NodeState) (link session : ℕ) (initiator : Address) (ttl : ℕ) (parts : List FloodPart) → flood.heard_reply n.floods (origin_of session initiator) ≡ flooded.New
    → Does (FloodSent (flood_kept n session initiator ttl parts flooded.New) link session initiator ttl parts) (flood_kept n session initiator ttl parts flooded.New) after
    → Hears (FloodQueues n link session initiator ttl parts) n after
unfolding with_floods
remembers_flood n after link session initiator ttl parts new d = (
  by d.what,
  record {
    remembered = [];
    discoveries = ap (λ (x : discovery.Discoveries). x.memories) d.discoveries ∙ sym (append-nil n.discoveries.memories);
    told = (origin_of session initiator, reading_after n.reading 120000) ∷ [];
    floods = ap (λ (x : flood.Floods). x.memories) d.floods;
  },
) where
  now_is : flood.remembers after.floods (origin_of session initiator) ≡ true
  now_is =
      ap (λ x. flood.remembers x (origin_of session initiator)) d.floods
      ∙ last_is_kept (origin_of session initiator) (reading_after n.reading 120000) n.floods.memories

  further : FloodSent (flood_kept n session initiator ttl parts flooded.New) link session initiator ttl parts after → FloodSent n link session initiator ttl parts after
  further s = record { loops_left = s.loops_left; queued = s.queued }

  by : (after.queue ≡ n.queue) ⊎ FloodSent (flood_kept n session initiator ttl parts flooded.New) link session initiator ttl parts after → FloodQueues n link session initiator ttl parts after
  by (inl e) = inl e
  by (inr s) = inr (further s, flood_was_new n.floods (origin_of session initiator) new, now_is)

renews : (n : NodeState) (link session : ℕ) (initiator : Address) (ttl : ℕ) (parts : List FloodPart) → Hears (FloodQueues n link session initiator ttl parts) n (flood_kept n session initiator ttl parts flooded.Known)
unfolding with_floods
renews n link session initiator ttl parts = (inl refl, as_before n (flood_kept n session initiator ttl parts flooded.Known) refl refl)

hears_flood : (n : NodeState) (link session : ℕ) (initiator : Address) (ttl : ℕ) (parts : List FloodPart) (heard : told.Heard) → flood.heard_reply n.floods (origin_of session initiator) ≡ heard
    → Hears (FloodQueues n link session initiator ttl parts) n (flood_heard n link session initiator ttl parts heard)
hears_flood n link session initiator ttl parts flooded.Known e = renews n link session initiator ttl parts
hears_flood n link session initiator ttl parts flooded.NoPlace e = silent (FloodQueues n link session initiator ttl parts) n inl
hears_flood n link session initiator ttl parts flooded.New e =
    remembers_flood n (flood_relayed (flood_kept n session initiator ttl parts flooded.New) link session initiator ttl parts) link session initiator ttl parts e
    (relays_flood (flood_kept n session initiator ttl parts flooded.New) link session initiator ttl parts)

takes_flood : (n : NodeState) (link session : ℕ) (initiator : Address) (ttl : ℕ) (parts : List FloodPart) → Hears (FloodQueues n link session initiator ttl parts) n (after_flood n link session initiator ttl parts)
takes_flood n link session initiator ttl parts = by (same_address n.plan.address initiator) where
  by : (b : Bool) → Hears (FloodQueues n link session initiator ttl parts) n (cond b n (flood_heard n link session initiator ttl parts (flood.heard_reply n.floods (origin_of session initiator))))
  by true = silent (FloodQueues n link session initiator ttl parts) n inl
  by false = hears_flood n link session initiator ttl parts (flood.heard_reply n.floods (origin_of session initiator)) refl

-- ---- a datagram

unheard : (n : NodeState) (link from : ℕ) (m : Option Message) → DatagramQueues n link from m n
unheard n link from (Some (Discovery session initiator o)) = inl refl
unheard n link from (Some (Flood session initiator ttl parts)) = inl refl
unheard n link from _ = refl

ignored : (n : NodeState) (link from : ℕ) (m : Option Message) → Hears (DatagramQueues n link from m) n n
ignored n link from m = (unheard n link from m, as_before n n refl refl)

hears : (n : NodeState) (cause : Cause) (neighbour : Neighbour) (m : Option Message) → neighbour_at n cause.link cause.from ≡ Some neighbour
    → Hears (DatagramQueues n cause.link cause.from m) n (datagram_of n cause neighbour m)
hears n cause neighbour (Some (Discovery session initiator o)) e = takes_discovery n cause neighbour session initiator o e
hears n cause neighbour (Some (Flood session initiator ttl parts)) e = takes_flood n cause.link session initiator ttl parts
hears n cause neighbour None e = ignored n cause.link cause.from None
hears n cause neighbour (Some Noop) e = ignored n cause.link cause.from (Some Noop)
hears n cause neighbour (Some (Response session initiator ttl a o)) e = ignored n cause.link cause.from (Some (Response session initiator ttl a o))
hears n cause neighbour (Some (ReqNeg session o)) e = ignored n cause.link cause.from (Some (ReqNeg session o))
hears n cause neighbour (Some (ReqSyn session o)) e = ignored n cause.link cause.from (Some (ReqSyn session o))
hears n cause neighbour (Some (Negotiate session o)) e = ignored n cause.link cause.from (Some (Negotiate session o))
hears n cause neighbour (Some (End session verdict)) e = ignored n cause.link cause.from (Some (End session verdict))
hears n cause neighbour (Some (Wait session millis)) e = ignored n cause.link cause.from (Some (Wait session millis))
hears n cause neighbour (Some (Synch session o)) e = ignored n cause.link cause.from (Some (Synch session o))
hears n cause neighbour (Some (Invalid session detail)) e = ignored n cause.link cause.from (Some (Invalid session detail))

hears_by : (n : NodeState) (cause : Cause) (m : Option Message) (neighbour : Option Neighbour) → neighbour_at n cause.link cause.from ≡ neighbour
    → Hears (DatagramQueues n cause.link cause.from m) n (datagram_by n cause m neighbour)
hears_by n cause m None e = ignored n cause.link cause.from m
hears_by n cause m (Some neighbour) e = hears n cause neighbour m e

comes : (n : NodeState) (link from : ℕ) (m : Option Message) → Hears (DatagramQueues n link from m) n (after_datagram n link from m)
unfolding after_datagram
comes n link from m = hears_by n (record { link = link; from = from }) m (neighbour_at n link from) refl

pub datagram_queues : (n after : NodeState) (link from : ℕ) (x : Coming) (r : Reply) → TakesDatagram n link from x r after → DatagramQueues n link from x.carried after × Grows n after
datagram_queues n after link from x reply.Taken e = subst (Hears (DatagramQueues n link from x.carried) n) (sym e) (comes n link from x.carried)
datagram_queues n after link from x reply.OutOfMemory e = subst (Hears (DatagramQueues n link from x.carried) n) (sym e) (ignored n link from x.carried)
datagram_queues n after link from x _ e = absurd e
