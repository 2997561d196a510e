-- The agents of a node that serves, as they are planned: the one that manages prefixes, then the beacons, then the readers.
use Rattle.std.specs.Prelude.{ℕ, ◌+◌, List, [], ◌∷◌, ◌++◌, Option, None, Some}
use Rattle.grasp_agent.specs.States.{AgentState, first_agent}
use Rattle.grasp_crew.specs.Herald.{first_herald}
use Rattle.grasp_crew.specs.Listener.{first_listener}
use Rattle.grasp_crew.specs.Steward.{steward_of}
use Rattle.grasp_crew.specs.declared.servant.Servant.{Servant}
use Rattle.grasp_crew.specs.declared.servant.Servant.TheVariants.{Steward, Herald, Listener}
use Rattle.grasp_crew.specs.declared.trying.Pace.{Pace}
use Rattle.grasp_node_main.specs.declared.want_plan.WantPlan.{WantPlan}
use Rattle.grasp_pool.specs.Functions.{pool_of}
use Rattle.grasp_pool.specs.declared.roots.RootPrefix.{RootPrefix}
use Rattle.grasp_service.specs.declared.plan.HeraldPlan.{HeraldPlan}
use Rattle.grasp_service.specs.declared.plan.ServicePlan.{ServicePlan}

-- a beacon with this number
abbrev pub herald_from : ℕ → HeraldPlan → Servant
herald_from number b = Herald (first_herald number b.name b.value b.ttl b.loops b.every)

-- the beacons, numbered from this number on
abbrev pub heralds_from : ℕ → List HeraldPlan → List Servant
heralds_from number [] = []
heralds_from number (b ∷ bs) = herald_from number b ∷ heralds_from (number + 1) bs

-- the reader of this objective, with this number
abbrev pub listener_from : ℕ → List ℕ → Servant
listener_from number name = Listener (first_listener number name)

-- the readers of these objectives, likewise
abbrev pub listeners_from : ℕ → List (List ℕ) → List Servant
listeners_from number [] = []
listeners_from number (name ∷ names) = listener_from number name ∷ listeners_from (number + 1) names

-- this agent, or one with these roots that has made no call
abbrev pub agent_or : List RootPrefix → Option AgentState → AgentState
agent_or roots None = first_agent (pool_of roots)
agent_or roots (Some agent) = agent

-- beacons and readers are numbered from 1, each by themselves
abbrev pub crew_from : AgentState → List WantPlan → Pace → List HeraldPlan → List (List ℕ) → List Servant
crew_from agent wants pace heralds readers = Steward (steward_of agent wants pace) ∷ (heralds_from 1 heralds ++ listeners_from 1 readers)

abbrev pub crew_with : List RootPrefix → List WantPlan → Pace → List HeraldPlan → List (List ℕ) → List Servant
crew_with roots wants pace heralds readers = crew_from (first_agent (pool_of roots)) wants pace heralds readers

-- where no agent is handed over these are `crew_with` of its roots
abbrev pub crew_of : ServicePlan → List Servant
crew_of p = crew_from (agent_or p.roots p.agent) p.wants p.pace p.heralds p.readers
