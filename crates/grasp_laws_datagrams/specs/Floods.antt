-- What a flood does that comes from a neighbour (RFC 8990, section 2.5.6.2).
use Rattle.std.specs.Prelude.{◌≡◌, ◌≢◌, ◌≤◌, ◌<◌, ◌-◌, ◌++◌, ℕ, List, [], ◌∷◌, length}
use Rattle.std.specs.List.{Any}
use Rattle.grasp_flood.specs.Floods.{after_heard}
use Rattle.grasp_flood.specs.declared.heard.Heard.TheVariants.{Known, New}
use Rattle.grasp_laws_datagrams.specs.Relaying.{IsRelayed}
use Rattle.grasp_laws_tables.specs.Floods.{IsUnknown}
use Rattle.grasp_model_node.specs.Node.{NodeState}
use Rattle.grasp_types.specs.Origin.{origin_of}
use Rattle.grasp_types.specs.Reading.{reading_after}
use Rattle.grasp_types.specs.declared.address.Address.{Address}
use Rattle.grasp_types.specs.declared.flood.FloodPart.{FloodPart}
use Rattle.grasp_types.specs.declared.message.Message.TheVariants.{Flood}

-- what a known flood told is renewed, and no memory
abbrev pub having_renewed : NodeState → ℕ → Address → ℕ → List FloodPart → NodeState
having_renewed n session initiator ttl parts = record n {
  floods = record { entries = (after_heard n.floods n.reading (origin_of session initiator) ttl parts Known).entries; memories = n.floods.memories };
}

-- what a new flood tells is kept, and it is remembered, the last, for 120000 ms
abbrev pub having_told : NodeState → ℕ → Address → ℕ → List FloodPart → NodeState
having_told n session initiator ttl parts = record n {
  floods = record {
    entries = (after_heard n.floods n.reading (origin_of session initiator) ttl parts New).entries;
    memories = n.floods.memories ++ (origin_of session initiator, reading_after n.reading 120000) ∷ [];
  };
}

-- with the loop count of its first part less by one
abbrev pub first_less : FloodPart → FloodPart
first_less part = record part { objective = record part.objective { loops = part.objective.loops - 1 } }

-- it is sent on where its first part has a loop count of 2 or more, and else goes no further
abbrev pub SendsItOn : NodeState → ℕ → ℕ → Address → ℕ → List FloodPart → NodeState → Type 0
SendsItOn n link session initiator ttl [] after = after ≡ n
SendsItOn n link session initiator ttl (part ∷ parts) after =
    (2 ≤ part.objective.loops → IsRelayed n link (Flood session initiator ttl (first_less part ∷ parts)) after) × (part.objective.loops < 2 → after ≡ n)

-- A flood of this node's own, and one without a place, change nothing; a known one renews what it told, and a new one is kept and sent on
pub record FloodDoes (n : NodeState) (link session : ℕ) (initiator : Address) (ttl : ℕ) (parts : List FloodPart) (after : NodeState) : Type 0 where
  pub own : initiator ≡ n.plan.address → after ≡ n
  pub known : initiator ≢ n.plan.address → Any (λ memory. memory.0 ≡ origin_of session initiator) n.floods.memories → after ≡ having_renewed n session initiator ttl parts
  pub no_place : IsUnknown n.floods (origin_of session initiator) → 256 ≤ length n.floods.memories → after ≡ n
  pub new : initiator ≢ n.plan.address → IsUnknown n.floods (origin_of session initiator) → length n.floods.memories < 256
      → SendsItOn (having_told n session initiator ttl parts) link session initiator ttl parts after
