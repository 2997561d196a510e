-- What holds of every registry, and of every call on it.
use Rattle.std.specs.Prelude.{◌≡◌, ◌≢◌, ℕ, ◌+◌, ◌<◌, ◌≤◌, Bool, true, false, ◌⊎◌, List, length, Option, Result, Ok, IfOk, IfErr, All, Any, find}
use Rattle.grasp_cbor.specs.DataItem.{DataItem}
use Rattle.grasp_types.specs.Objective.{has_neg, has_synch, has_dry}
use Rattle.grasp_types.specs.Refusal.{refusal_number}
use Rattle.grasp_types.specs.declared.refusal.ApiRefused.{ApiRefused}
use Rattle.grasp_types.specs.declared.refusal.ApiRefused.TheVariants.{NoAsa, AsasFull, DuplicateAsa, NotBoth, ObjectivesFull, ObjectiveTaken, NotYourObjective, NotNegotiable, NotSynchronizable, NotDry}
use Rattle.grasp_asa.specs.declared.entry.Registered.{Registered}
use Rattle.grasp_asa.specs.Registrations.{Registrations, IsRegistry, is_numbered, is_of, is_registered}
use Rattle.grasp_asa.specs.Answers.{nothing_registered, register_asa_answer, after_register_asa, deregister_asa_answer, after_deregister_asa, register_objective_answer, after_register_objective, deregister_objective_answer, after_deregister_objective, owned_answer, listen_answer, after_listen, offer_answer, after_offer}

-- each call keeps what holds of every registry
pub record IsKept (r : Registrations) : Type 0 where
  pub register_asa : (name : List ℕ) → IsRegistry (after_register_asa r name (register_asa_answer r name))
  pub deregister_asa : (asa : ℕ) → IsRegistry (after_deregister_asa r asa (deregister_asa_answer r asa))
  pub register_objective : (asa : ℕ) (name : List ℕ) (flags : ℕ) → IsRegistry (after_register_objective r asa name flags (register_objective_answer r asa name flags))
  pub deregister_objective : (asa : ℕ) (name : List ℕ) → IsRegistry (after_deregister_objective r asa name (deregister_objective_answer r asa name))
  pub listen : (asa : ℕ) (name : List ℕ) (on : Bool) → IsRegistry (after_listen r name on (listen_answer r asa name))
  pub offer : (asa : ℕ) (name : List ℕ) (value : Option DataItem) → IsRegistry (after_offer r name value (offer_answer r asa name))

-- an empty registry is sound, and each call keeps a registry sound
pub record RegistryIsKept : Type 0 where
  pub first : IsRegistry nothing_registered
  pub kept : (r : Registrations) → IsRegistry r → IsKept r

-- no registered agent has this number
abbrev pub IsNoAgent : Registrations → ℕ → Type 0
IsNoAgent r asa = All (λ a. a.number ≢ asa) r.agents

-- this agent registered the objective under this name
abbrev pub IsOf : ℕ → List ℕ → Registered → Type 0
IsOf asa name o = (o.owner ≡ asa) × (o.name ≡ name)

-- this agent hasn't registered an objective under this name
abbrev pub IsNotOwned : Registrations → ℕ → List ℕ → Type 0
IsNotOwned r asa name = All (λ o. ¬ IsOf asa name o) r.objectives

-- of the refusals that hold, the least is answered, and where the call is accepted none holds
pub record IsLeast {X : Type 0} (Holds : ApiRefused → Type 0) (answer : Result X ApiRefused) : Type 0 where
  pub refused : IfErr answer (λ e. Holds e × ((f : ApiRefused) → Holds f → refusal_number e ≤ refusal_number f))
  pub accepted : IfOk answer (λ _. (f : ApiRefused) → ¬ Holds f)

-- what refuses the registration of an agent under this name
abbrev pub RefusesRegisterAsa : Registrations → List ℕ → ApiRefused → Type 0
RefusesRegisterAsa r name AsasFull = (length r.agents ≡ 32) ⊎ (r.made ≡ 4294967295)
RefusesRegisterAsa r name DuplicateAsa = Any (λ a. a.name ≡ name) r.agents
RefusesRegisterAsa r name _ = ⊥

-- what refuses the deregistration of an agent
abbrev pub RefusesDeregisterAsa : Registrations → ℕ → ApiRefused → Type 0
RefusesDeregisterAsa r asa NoAsa = IsNoAgent r asa
RefusesDeregisterAsa r asa _ = ⊥

-- what refuses the registration of an objective
abbrev pub RefusesRegisterObjective : Registrations → ℕ → List ℕ → ℕ → ApiRefused → Type 0
RefusesRegisterObjective r asa name flags NoAsa = IsNoAgent r asa
RefusesRegisterObjective r asa name flags NotBoth = has_neg flags ≡ has_synch flags
RefusesRegisterObjective r asa name flags ObjectivesFull = length r.objectives ≡ 64
RefusesRegisterObjective r asa name flags ObjectiveTaken = Any (λ o. o.name ≡ name) r.objectives
RefusesRegisterObjective r asa name flags NotDry = (has_dry flags ≡ true) × (has_neg flags ≡ false)
RefusesRegisterObjective r asa name flags _ = ⊥

-- what refuses a look at an agent's objective, and its deregistration
abbrev pub RefusesOwned : Registrations → ℕ → List ℕ → ApiRefused → Type 0
RefusesOwned r asa name NoAsa = IsNoAgent r asa
RefusesOwned r asa name NotYourObjective = IsNotOwned r asa name
RefusesOwned r asa name _ = ⊥

-- what refuses to listen for it
abbrev pub RefusesListen : Registrations → ℕ → List ℕ → ApiRefused → Type 0
RefusesListen r asa name NoAsa = IsNoAgent r asa
RefusesListen r asa name NotYourObjective = IsNotOwned r asa name
RefusesListen r asa name NotNegotiable = Any (λ o. IsOf asa name o × (has_neg o.flags ≡ false)) r.objectives
RefusesListen r asa name _ = ⊥

-- what refuses to offer a value of it
abbrev pub RefusesOffer : Registrations → ℕ → List ℕ → ApiRefused → Type 0
RefusesOffer r asa name NoAsa = IsNoAgent r asa
RefusesOffer r asa name NotYourObjective = IsNotOwned r asa name
RefusesOffer r asa name NotSynchronizable = Any (λ o. IsOf asa name o × (has_synch o.flags ≡ false)) r.objectives
RefusesOffer r asa name _ = ⊥

-- each call of a registry answers the least refusal that holds of it
pub record RefusalsAreLeast (r : Registrations) : Type 0 where
  pub register_asa : (name : List ℕ) → IsLeast (RefusesRegisterAsa r name) (register_asa_answer r name)
  pub deregister_asa : (asa : ℕ) → IsLeast (RefusesDeregisterAsa r asa) (deregister_asa_answer r asa)
  pub register_objective : (asa : ℕ) (name : List ℕ) (flags : ℕ) → IsLeast (RefusesRegisterObjective r asa name flags) (register_objective_answer r asa name flags)
  pub owned : (asa : ℕ) (name : List ℕ) → IsLeast (RefusesOwned r asa name) (owned_answer r asa name)
  pub deregister_objective : (asa : ℕ) (name : List ℕ) → IsLeast (RefusesOwned r asa name) (deregister_objective_answer r asa name)
  pub listen : (asa : ℕ) (name : List ℕ) → IsLeast (RefusesListen r asa name) (listen_answer r asa name)
  pub offer : (asa : ℕ) (name : List ℕ) → IsLeast (RefusesOffer r asa name) (offer_answer r asa name)

-- this agent, and what it has registered under each name (its flags, its mark and its value), are as they were
pub record IsAsBefore (owner : ℕ) (r s : Registrations) : Type 0 where
  pub agent : find (is_numbered owner) s.agents ≡ find (is_numbered owner) r.agents
  pub objective : (name : List ℕ) → find (is_of owner name) s.objectives ≡ find (is_of owner name) r.objectives

-- the calls of other agents leave this one and its objectives as they are
pub record IsLeftByOthers (r : Registrations) (owner : ℕ) : Type 0 where
  pub register_asa : (name : List ℕ) → IsAsBefore owner r (after_register_asa r name (register_asa_answer r name))
  pub deregister_asa : (asa : ℕ) → asa ≢ owner → IsAsBefore owner r (after_deregister_asa r asa (deregister_asa_answer r asa))
  pub register_objective : (asa : ℕ) (name : List ℕ) (flags : ℕ) → asa ≢ owner
      → IsAsBefore owner r (after_register_objective r asa name flags (register_objective_answer r asa name flags))
  pub deregister_objective : (asa : ℕ) (name : List ℕ) → asa ≢ owner
      → IsAsBefore owner r (after_deregister_objective r asa name (deregister_objective_answer r asa name))
  pub listen : (asa : ℕ) (name : List ℕ) (on : Bool) → asa ≢ owner → IsAsBefore owner r (after_listen r name on (listen_answer r asa name))
  pub offer : (asa : ℕ) (name : List ℕ) (value : Option DataItem) → asa ≢ owner
      → IsAsBefore owner r (after_offer r name value (offer_answer r asa name))

-- the calls of other agents leave each registered agent and its objectives as they are
abbrev pub OthersLeaveAnObjective : Type 0
OthersLeaveAnObjective = (r : Registrations) (owner : ℕ) → IsRegistry r → is_registered r owner ≡ true → IsLeftByOthers r owner

-- a name that is registered isn't registered again
abbrev pub TakenStaysTaken : Type 0
TakenStaysTaken = (r : Registrations) (asa : ℕ) (name : List ℕ) (flags : ℕ) → Any (λ o. o.name ≡ name) r.objectives
    → register_objective_answer r asa name flags ≢ Ok tt

-- a new agent's number is one more than the count of all that were ever registered, and so above each agent's
abbrev pub IsNewNumber : Registrations → ℕ → Type 0
IsNewNumber r asa = (asa ≡ r.made + 1) × All (λ a. a.number < asa) r.agents

-- no call lowers the count of the agents that were ever registered
pub record IsCounted (r : Registrations) : Type 0 where
  pub register_asa : (name : List ℕ) → r.made ≤ (after_register_asa r name (register_asa_answer r name)).made
  pub deregister_asa : (asa : ℕ) → (after_deregister_asa r asa (deregister_asa_answer r asa)).made ≡ r.made
  pub register_objective : (asa : ℕ) (name : List ℕ) (flags : ℕ)
      → (after_register_objective r asa name flags (register_objective_answer r asa name flags)).made ≡ r.made
  pub deregister_objective : (asa : ℕ) (name : List ℕ) → (after_deregister_objective r asa name (deregister_objective_answer r asa name)).made ≡ r.made
  pub listen : (asa : ℕ) (name : List ℕ) (on : Bool) → (after_listen r name on (listen_answer r asa name)).made ≡ r.made
  pub offer : (asa : ℕ) (name : List ℕ) (value : Option DataItem) → (after_offer r name value (offer_answer r asa name)).made ≡ r.made

-- so no number is used again
abbrev pub NumbersAreNew : Type 0
NumbersAreNew = (r : Registrations) → IsRegistry r → ((name : List ℕ) → IfOk (register_asa_answer r name) (IsNewNumber r)) × IsCounted r
