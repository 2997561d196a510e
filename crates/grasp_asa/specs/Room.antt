-- Inside: what a registry's fields mean, and the room that they keep.
use Rattle.std.specs.Prelude.{◌≤◌}
use Rattle.std.specs.Vec.{vec_capacity}
use Rattle.grasp_asa.specs.declared.registry.Registry.TheInside.{Inside}
use Rattle.grasp_asa.specs.Registrations.{Registrations, IsRegistry}

-- the two lists in order, and the count
abbrev pub registrations_of : Inside → Registrations
registrations_of a = record { agents = a.agents.items; objectives = a.objectives.items; made = a.made }

-- what holds of every registry holds, and there is room for all that it may hold
pub record HasRoom (a : Inside) : Type 0 where
  pub registry : IsRegistry (registrations_of a)
  pub agents : 32 ≤ vec_capacity a.agents
  pub objectives : 64 ≤ vec_capacity a.objectives
