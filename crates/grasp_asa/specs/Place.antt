-- Inside: where a registry keeps an objective.
use Rattle.std.specs.Prelude.{◌≡◌, ℕ, ◌<◌, true, List, length, Ok, slice_index_or}
use Rattle.grasp_asa.specs.declared.entry.Registered.{Registered}
use Rattle.grasp_asa.specs.Registrations.{Registrations, is_of}
use Rattle.grasp_asa.specs.Answers.{owned_answer}

-- the objective at this place is the one that this agent registered under this name
pub record IsPlaceOf (r : Registrations) (asa : ℕ) (name : List ℕ) (i : ℕ) : Type 0 where
  pub within : i < length r.objectives
  pub mine : (d : Registered) → is_of asa name (slice_index_or r.objectives i d) ≡ true
  pub owned : (d : Registered) → owned_answer r asa name ≡ Ok (slice_index_or r.objectives i d).flags
