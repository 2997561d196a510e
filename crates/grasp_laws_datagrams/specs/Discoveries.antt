-- What a discovery does that comes from a neighbour (RFC 8990, section 2.5.4).
use Rattle.std.specs.Prelude.{◌≡◌, ◌≤◌, ◌<◌, ◌-◌, ◌⊎◌, ◌++◌, ℕ, true, false, List, [], ◌∷◌, length, None, Some, if◌then◌else◌}
use Rattle.std.specs.List.{Any}
use Rattle.grasp_asa.specs.Answers.{flags_registered}
use Rattle.grasp_asa.specs.Registrations.{Registrations}
use Rattle.grasp_discovery.specs.Discoveries.{known_of}
use Rattle.grasp_discovery.specs.declared.topic.Topic.{Topic}
use Rattle.grasp_laws_datagrams.specs.Relaying.{IsRelayed}
use Rattle.grasp_laws_hearing.specs.Answering.{IsDialled}
use Rattle.grasp_laws_tables.specs.Discoveries.{IsUnknown}
use Rattle.grasp_model_node.specs.Node.{NodeState}
use Rattle.grasp_types.specs.Objective.{has_disc, has_neg, has_synch}
use Rattle.grasp_types.specs.Origin.{origin_of}
use Rattle.grasp_types.specs.Reading.{reading_after}
use Rattle.grasp_types.specs.declared.address.Address.{Address}
use Rattle.grasp_types.specs.declared.address.Locator.{Locator}
use Rattle.grasp_types.specs.declared.links.Neighbour.{Neighbour}
use Rattle.grasp_types.specs.declared.message.Answer.TheVariants.{Locators, Divert}
use Rattle.grasp_types.specs.declared.message.Message.{Message}
use Rattle.grasp_types.specs.declared.message.Message.TheVariants.{Discovery, Response}
use Rattle.grasp_types.specs.declared.objective.Objective.{Objective}
use Rattle.grasp_types.specs.declared.session.Kind.TheVariants.{Negotiation, Synchronization}

-- this node began it, or it asks for neither use
abbrev pub IsDropped : NodeState → Address → Objective → Type 0
IsDropped n initiator o = (initiator ≡ n.plan.address) ⊎ ((has_neg o.flags ≡ false) × (has_synch o.flags ≡ false))

-- what it looks for: negotiation where it asks for that, and else synchronization
abbrev pub wanted : Objective → Topic
wanted o = record { name = o.name; kind = if has_neg o.flags then Negotiation else Synchronization }

-- it is remembered, the last, with its cause and with what it looks for, for 60000 ms
abbrev pub having_remembered : NodeState → ℕ → ℕ → ℕ → Address → Objective → NodeState
having_remembered n link from session initiator o = record n {
  discoveries = record n.discoveries {
    memories = n.discoveries.memories
        ++ (
          origin_of session initiator,
          record { cause = record { link = link; from = from }; topic = wanted o; end = reading_after n.reading 60000 },
        ) ∷ [];
  };
}

-- the objective is registered here for discovery, and for a use that is asked for; nothing else matters
pub record IsServed (r : Registrations) (o : Objective) : Type 0 where
  pub flags : ℕ
  pub registered : flags_registered r o.name ≡ Some flags
  pub disc : has_disc flags ≡ true
  pub use_in_common : ((has_neg flags ≡ true) × (has_neg o.flags ≡ true)) ⊎ ((has_synch flags ≡ true) × (has_synch o.flags ≡ true))

-- a response to it for the neighbour, on a stream that is dialled for this alone: the node's own locator for 60000 ms
abbrev pub own_answer : NodeState → ℕ → Address → Message
own_answer n session initiator = Response session initiator 60000 (Locators (n.plan.locator ∷ [])) None

-- with a loop count less by one, and all else as it was
abbrev pub one_less : ℕ → Address → Objective → Message
one_less session initiator o = Discovery session initiator (record { name = o.name; flags = o.flags; loops = o.loops - 1; value = o.value })

-- A new discovery that is served is answered by the node's own locator. Another one is diverted to the locators that are cached under what it looks for,
-- with what is left of their lifetime; where none are it is sent on from a loop count of 2 on, and else goes no further
pub record AnswersIt (n : NodeState) (link : ℕ) (neighbour : Neighbour) (session : ℕ) (initiator : Address) (o : Objective) (after : NodeState) : Type 0 where
  pub served : IsServed n.registrations o → IsDialled n neighbour.locator (own_answer n session initiator) after
  pub diverted : ¬ IsServed n.registrations o → (known : List Locator × ℕ) → known_of n.discoveries (wanted o) n.reading ≡ Some known
      → IsDialled n neighbour.locator (Response session initiator known.1 (Divert known.0) None) after
  pub relayed : ¬ IsServed n.registrations o → known_of n.discoveries (wanted o) n.reading ≡ None → 2 ≤ o.loops → IsRelayed n link (one_less session initiator o) after
  pub over : ¬ IsServed n.registrations o → known_of n.discoveries (wanted o) n.reading ≡ None → o.loops < 2 → after ≡ n

-- A discovery that is dropped or remembered, and one without a place, change nothing; a new one is remembered and then answered
pub record DiscoveryDoes (n : NodeState) (link from : ℕ) (neighbour : Neighbour) (session : ℕ) (initiator : Address) (o : Objective) (after : NodeState) : Type 0 where
  pub dropped : IsDropped n initiator o → after ≡ n
  pub known : Any (λ memory. memory.0 ≡ origin_of session initiator) n.discoveries.memories → after ≡ n
  pub no_place : 256 ≤ length n.discoveries.memories → after ≡ n
  pub new : ¬ IsDropped n initiator o → IsUnknown n.discoveries (origin_of session initiator) → length n.discoveries.memories < 256
      → AnswersIt (having_remembered n link from session initiator o) link neighbour session initiator o after
