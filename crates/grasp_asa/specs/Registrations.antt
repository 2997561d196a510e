-- Who is registered at a node, and for what.
use Rattle.std.specs.Prelude.{◌≢◌, ℕ, ◌<◌, ◌≤◌, ◌^◌, Bool, not, ◌&&◌, ◌==◌, if◌then◌else◌, List, length, is_some, All, AllPairs, IsTrue}
use Rattle.std.specs.List.{list_any}
use Rattle.std.specs.Str.{bytes_eq}
use Rattle.grasp_types.specs.Objective.{has_neg, has_synch, has_dry}
use Rattle.grasp_asa.specs.declared.entry.Agent.{Agent}
use Rattle.grasp_asa.specs.declared.entry.Registered.{Registered}

-- the agents and the objectives of a node, each in the order of registration, and how many agents were ever registered
pub record Registrations : Type 0 where
  pub agents : List Agent
  pub objectives : List Registered
  pub made : ℕ

-- the agent has this number
abbrev pub is_numbered : ℕ → Agent → Bool
is_numbered asa a = a.number == asa

-- the agent has this name
abbrev pub is_agent_named : List ℕ → Agent → Bool
is_agent_named name a = bytes_eq a.name name

-- the objective has this name
abbrev pub is_named : List ℕ → Registered → Bool
is_named name o = bytes_eq o.name name

-- this agent registered the objective
abbrev pub is_owned_by : ℕ → Registered → Bool
is_owned_by asa o = o.owner == asa

-- this agent registered the objective under this name
abbrev pub is_of : ℕ → List ℕ → Registered → Bool
is_of asa name o = is_owned_by asa o && is_named name o

-- a registered agent has this number
abbrev pub is_registered : Registrations → ℕ → Bool
is_registered r asa = list_any (is_numbered asa) r.agents

-- a registered agent has this name
abbrev pub is_agent_name : Registrations → List ℕ → Bool
is_agent_name r name = list_any (is_agent_named name) r.agents

-- an agent of this node has registered the name
abbrev pub is_taken : Registrations → List ℕ → Bool
is_taken r name = list_any (is_named name) r.objectives

-- the flags have both F_NEG and F_SYNCH, or neither
abbrev pub is_both_or_neither : ℕ → Bool
is_both_or_neither flags = if has_neg flags then has_synch flags else not (has_synch flags)

-- the flags have F_NEG_DRY without F_NEG
abbrev pub is_dry_alone : ℕ → Bool
is_dry_alone flags = has_dry flags && not (has_neg flags)

-- one use alone; what is listened for is negotiated, and what is offered is synchronized
pub record IsObjective (o : Registered) : Type 0 where
  pub one_use : IsTrue (not (is_both_or_neither o.flags))
  pub dry : IsTrue (not (is_dry_alone o.flags))
  pub listening : IsTrue o.listening → IsTrue (has_neg o.flags)
  pub offered : IsTrue (is_some o.offered) → IsTrue (has_synch o.flags)

-- what holds of every registry
pub record IsRegistry (r : Registrations) : Type 0 where
  -- the limits
  pub agents : length r.agents ≤ 32
  pub objectives : length r.objectives ≤ 64
  pub made : r.made < 2 ^ 32
  -- numbers from 1 to the count, and each greater than those before
  pub numbers : All (λ a. (1 ≤ a.number) × (a.number ≤ r.made)) r.agents
  pub rising : AllPairs (λ a b. a.number < b.number) r.agents
  -- no name twice
  pub agent_names : AllPairs (λ a b. a.name ≢ b.name) r.agents
  pub objective_names : AllPairs (λ o p. o.name ≢ p.name) r.objectives
  -- each owner is registered
  pub owners : All (λ o. IsTrue (is_registered r o.owner)) r.objectives
  pub each : All IsObjective r.objectives
