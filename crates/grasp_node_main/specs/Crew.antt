-- The agents of a node's plan once it is opened: the one that manages prefixes, which has made its opening calls, then the beacons,
-- then the readers. As callers they are 1 and up, in this order.
use Rattle.std.specs.Prelude.{◌≡◌, ◌≤◌, ℕ, ◌+◌, List, [], ◌∷◌, ◌++◌, length, slice_get, Some}
use Rattle.grasp_agent.specs.Announcing.{first_beacon, first_reader}
use Rattle.grasp_pool.specs.Functions.{pool_of}
use Rattle.grasp_pool.specs.declared.roots.RootPrefix.{RootPrefix}
use Rattle.grasp_shared.specs.History.{History, own_calls}
use Rattle.grasp_node_main.specs.Manager.{opened_manager}
use Rattle.grasp_node_main.specs.Workers.{AreCallsOf, after_calls}
use Rattle.grasp_node_main.specs.declared.plan.BeaconPlan.{BeaconPlan}
use Rattle.grasp_node_main.specs.declared.plan.DaemonPlan.{DaemonPlan}
use Rattle.grasp_node_main.specs.declared.want_plan.WantPlan.{WantPlan}
use Rattle.grasp_node_main.specs.declared.worker.Worker.{Worker}
use Rattle.grasp_node_main.specs.declared.worker.Worker.TheVariants.{Manager, Beacon, Reader}

-- the beacons, numbered from this number on
abbrev pub beacons_from : ℕ → List BeaconPlan → List Worker
beacons_from number [] = []
beacons_from number (b ∷ bs) = Beacon (first_beacon number b.name b.value b.ttl b.loops) ∷ beacons_from (number + 1) bs

-- the readers of these objectives, likewise
abbrev pub readers_from : ℕ → List (List ℕ) → List Worker
readers_from number [] = []
readers_from number (name ∷ names) = Reader (first_reader number name) ∷ readers_from (number + 1) names

-- beacons and readers are numbered from 1, each by themselves
abbrev pub crew_with : List RootPrefix → List WantPlan → List BeaconPlan → List (List ℕ) → List Worker
crew_with roots wants beacons readers = Manager (opened_manager (pool_of roots) wants) ∷ (beacons_from 1 beacons ++ readers_from 1 readers)

abbrev pub crew_of : DaemonPlan → List Worker
crew_of p = crew_with p.roots p.wants p.beacons p.readers

-- Each agent's own calls in the history are the first that it makes, and at most so many. The agent at a place, from 0, is the
-- caller of the next number.
abbrev pub AgentsMade : List Worker → History → ℕ → Type 0
AgentsMade crew history count = (place : ℕ) (w : Worker) → slice_get crew place ≡ Some w → AreCallsOf w (own_calls (place + 1) history) × (length (own_calls (place + 1) history) ≤ count)

-- each made just so many
abbrev pub AllMade : List Worker → History → ℕ → Type 0
AllMade crew history count = (place : ℕ) (w : Worker) → slice_get crew place ≡ Some w → length (own_calls (place + 1) history) ≡ count

-- the agents, from the caller of this number on, after their own calls
abbrev pub crew_after : ℕ → List Worker → History → List Worker
crew_after caller [] history = []
crew_after caller (w ∷ ws) history = after_calls w (own_calls caller history) ∷ crew_after (caller + 1) ws history
