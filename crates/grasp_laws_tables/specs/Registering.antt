-- What the calls of a registry leave.
use Rattle.std.specs.Prelude.{◌≡◌, ◌≢◌, ℕ, Bool, false, List, [], ◌∷◌, ◌++◌, Option, None, Ok, Err}
use Rattle.std.specs.List.{AllZip}
use Rattle.grasp_cbor.specs.DataItem.{DataItem}
use Rattle.grasp_types.specs.declared.refusal.ApiRefused.{ApiRefused}
use Rattle.grasp_asa.specs.declared.entry.Registered.{Registered}
use Rattle.grasp_asa.specs.Registrations.{Registrations}
use Rattle.grasp_asa.specs.Answers.{after_register_asa, after_deregister_asa, after_register_objective, after_deregister_objective, after_listen, after_offer}
use Rattle.grasp_laws_tables.specs.Laws.{IsOf}
use Rattle.grasp_laws_tables.specs.Dropping.{HasDropped}

-- the objective of this name is listened for or not, as was said, and is else as it was; any other is as it was
pub record IsMarked (wanted : List ℕ) (on : Bool) (old new : Registered) : Type 0 where
  pub named : old.name ≡ wanted → new ≡ record old { listening = on }
  pub other : old.name ≢ wanted → new ≡ old

-- the objective of this name is offered with this value, or with none, and is else as it was; any other is as it was
pub record IsOffered (wanted : List ℕ) (value : Option DataItem) (old new : Registered) : Type 0 where
  pub named : old.name ≡ wanted → new ≡ record old { offered = value }
  pub other : old.name ≢ wanted → new ≡ old

-- what each call leaves that isn't refused; the agents, or the objectives, of which it doesn't speak are as they were
pub record CallsLeave (r : Registrations) : Type 0 where
  -- a new agent comes last, and so does a new objective, which isn't listened for and has no value
  pub agent : (name : List ℕ) (asa : ℕ) → (after_register_asa r name (Ok asa)).agents ≡ r.agents ++ record { number = asa; name = name } ∷ []
  pub agent_alone : (name : List ℕ) (asa : ℕ) → (after_register_asa r name (Ok asa)).objectives ≡ r.objectives
  pub objective : (asa : ℕ) (name : List ℕ) (flags : ℕ) → (after_register_objective r asa name flags (Ok tt)).objectives
      ≡ r.objectives ++ record { owner = asa; name = name; flags = flags; listening = false; offered = None } ∷ []
  pub objective_alone : (asa : ℕ) (name : List ℕ) (flags : ℕ) → (after_register_objective r asa name flags (Ok tt)).agents ≡ r.agents
  -- an agent that leaves takes its objectives with it, and an objective that leaves goes alone
  pub leaves : (asa : ℕ) → HasDropped (λ agent. agent.number ≡ asa) r.agents (after_deregister_asa r asa (Ok tt)).agents
  pub leaves_with : (asa : ℕ) → HasDropped (λ o. o.owner ≡ asa) r.objectives (after_deregister_asa r asa (Ok tt)).objectives
  pub drops : (asa : ℕ) (name : List ℕ) → HasDropped (IsOf asa name) r.objectives (after_deregister_objective r asa name (Ok tt)).objectives
  pub drops_alone : (asa : ℕ) (name : List ℕ) → (after_deregister_objective r asa name (Ok tt)).agents ≡ r.agents
  -- a mark or a value is that of the name alone
  pub listens : (name : List ℕ) (on : Bool) → AllZip (IsMarked name on) r.objectives (after_listen r name on (Ok tt)).objectives
  pub listens_alone : (name : List ℕ) (on : Bool) → (after_listen r name on (Ok tt)).agents ≡ r.agents
  pub offers : (name : List ℕ) (value : Option DataItem) → AllZip (IsOffered name value) r.objectives (after_offer r name value (Ok tt)).objectives
  pub offers_alone : (name : List ℕ) (value : Option DataItem) → (after_offer r name value (Ok tt)).agents ≡ r.agents

-- a call that is refused changes nothing
pub record RefusedLeave (r : Registrations) (e : ApiRefused) : Type 0 where
  pub agent : (name : List ℕ) → after_register_asa r name (Err e) ≡ r
  pub objective : (asa : ℕ) (name : List ℕ) (flags : ℕ) → after_register_objective r asa name flags (Err e) ≡ r
  pub leaves : (asa : ℕ) → after_deregister_asa r asa (Err e) ≡ r
  pub drops : (asa : ℕ) (name : List ℕ) → after_deregister_objective r asa name (Err e) ≡ r
  pub listens : (name : List ℕ) (on : Bool) → after_listen r name on (Err e) ≡ r
  pub offers : (name : List ℕ) (value : Option DataItem) → after_offer r name value (Err e) ≡ r

-- in every registry a call changes only what it speaks of, and a refused call changes nothing
pub record RegistriesAreLeft : Type 0 where
  pub done : (r : Registrations) → CallsLeave r
  pub refused : (r : Registrations) (e : ApiRefused) → RefusedLeave r e
