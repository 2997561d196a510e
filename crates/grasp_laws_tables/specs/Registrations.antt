-- What the look-ups of a registry say of what is registered.
use Rattle.std.specs.Prelude.{◌≡◌, ℕ, ◌↔◌, true, List, map, Some, Any, Contains}
use Rattle.grasp_cbor.specs.DataItem.{DataItem}
use Rattle.grasp_flood.specs.Laws.{IsPartOf}
use Rattle.grasp_asa.specs.Registrations.{Registrations, IsRegistry}
use Rattle.grasp_asa.specs.Answers.{flags_registered, listener_of, value_offered, names_of}

-- the flags of a name are those of the objective that is registered under it
abbrev pub FlagsAreRegistered : Registrations → Type 0
FlagsAreRegistered r = (name : List ℕ) (flags : ℕ)
    → flags_registered r name ≡ Some flags ↔ Any (λ o. (o.name ≡ name) × (o.flags ≡ flags)) r.objectives

-- an agent listens for a name exactly where it registered an objective under it, and that is listened for
abbrev pub ListenersAreRegistered : Registrations → Type 0
ListenersAreRegistered r = (name : List ℕ) (asa : ℕ)
    → listener_of r name ≡ Some asa ↔ Any (λ o. (o.name ≡ name) × (o.owner ≡ asa) × (o.listening ≡ true)) r.objectives

-- a value is offered under a name exactly where the objective that is registered under it has it
abbrev pub OffersAreRegistered : Registrations → Type 0
OffersAreRegistered r = (name : List ℕ) (value : DataItem)
    → value_offered r name ≡ Some value ↔ Any (λ o. (o.name ≡ name) × (o.offered ≡ Some value)) r.objectives

-- what is looked up under a name is what is registered under it
pub record IsLookedUp (r : Registrations) : Type 0 where
  pub flags : FlagsAreRegistered r
  pub listeners : ListenersAreRegistered r
  pub offers : OffersAreRegistered r

-- in every registry, what is looked up under a name is what is registered under it
abbrev pub LookUpsAreRegistered : Type 0
LookUpsAreRegistered = (r : Registrations) → IsRegistry r → IsLookedUp r

-- the names of an agent are those of the objectives that it registered, in the order of their registration
pub record NamesAreItsOwn (r : Registrations) (asa : ℕ) : Type 0 where
  pub each : (name : List ℕ) → Contains (names_of r asa) name ↔ Any (λ o. (o.owner ≡ asa) × (o.name ≡ name)) r.objectives
  pub order : IsPartOf (names_of r asa) (map (λ o. o.name) r.objectives)

-- the names of each agent are those of the objectives that it registered, in the order of their registration
abbrev pub NamesAreRegistered : Type 0
NamesAreRegistered = (r : Registrations) (asa : ℕ) → NamesAreItsOwn r asa
