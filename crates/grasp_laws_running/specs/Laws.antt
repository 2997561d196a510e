-- A node that runs is a member of a network, as far as it is given what a network can give: so the promise is one of nodes that run.
use Rattle.std.specs.Prelude.{◌≡◌, ◌≢◌, ◌++◌, ℕ, All, Bool, true, List, Option, Some, slice_get}
use Rattle.grasp_laws_members.specs.Acts.{Act, agent_after, seat_after}
use Rattle.grasp_laws_members.specs.Courses.{IsCourse, Moment, acts_at, course_after, networks_of}
use Rattle.grasp_laws_running.specs.Acts.{BeginsRun, HadMemory, IsRunOf}
use Rattle.grasp_model_network.specs.GoodSetting.{IsGoodSetting}
use Rattle.grasp_model_network.specs.Openings.{first_seat}
use Rattle.grasp_model_network.specs.Runs.{first_world}
use Rattle.grasp_model_network.specs.Setting.{Member, Setting, numbered}
use Rattle.grasp_model_network.specs.World.{present_life, seat_at}
use Rattle.grasp_model_node.specs.Node.{NodeState}
use Rattle.grasp_model_script.specs.Safe.{IsSafe}
use Rattle.grasp_node_main.specs.Runs.{Ran}
use Rattle.grasp_node_main.specs.Tells.{Told}
use Rattle.grasp_node_main.specs.declared.plan.DaemonPlan.{DaemonPlan}
use Rattle.grasp_node_main.specs.declared.worker.Worker.{Worker}
use Rattle.grasp_node_main.specs.Manager.{ManagerState, opened_manager}
use Rattle.grasp_node_main.specs.Openings.{opened_agent}
use Rattle.grasp_node_main.specs.Workers.{after_calls}
use Rattle.grasp_node_main.specs.declared.worker.Worker.TheVariants.{Manager}
use Rattle.grasp_pool.specs.Functions.{pool_of}
use Rattle.grasp_pool.specs.Holdings.{IsFree}
use Rattle.grasp_shared.specs.History.{History, own_calls}

-- ---- what happened at a node that ran

-- what happened first at the node that ran, so far as these entries are it. Its agent is then the one that the node's calls in them lead to
pub record HasActs (plan : DaemonPlan) (opened : NodeState) (history front : History) : Type 0 where
  pub acts : List Act
  pub begins : BeginsRun plan opened history acts
  pub first : begins.front ≡ front
  pub manager : ManagerState
  pub leads : after_calls (Manager (opened_manager (pool_of plan.roots) plan.wants)) (own_calls 1 front) ≡ Manager manager
  pub agent : manager.agent ≡ agent_after (opened_agent (pool_of plan.roots)) acts

-- however many of the first entries of a run had memory, something happened that they are
abbrev pub RunsHaveActs : Type 0
RunsHaveActs = (plan : DaemonPlan) (old new : Told) (workers : Option (List Worker)) (ran : Ran plan old new workers) (front rest : History)
    → ran.history ≡ front ++ rest → HadMemory front → HasActs plan ran.opened ran.history front

-- ---- networks of nodes that run

-- each member that runs is one of the network, whose node ran so
abbrev pub AreRuns : (ℕ → Bool) → Setting → List Moment → Type 0
AreRuns runs s ms = (node : ℕ) → runs node ≡ true → (m : Member) × (numbered s.members node ≡ Some m) × IsRunOf m (acts_at node ms)

-- Where nodes that run are members of a network, and are given what it can give them, the promise is kept by the network at every moment; and each
-- node and its agent stand there as they do after what happened at them.
pub record RunningNodesAreSafe : Type 0 where
  pub safe : (runs : ℕ → Bool) (s : Setting) (ms : List Moment) → IsGoodSetting s → AreRuns runs s ms → IsCourse runs s (first_world s) ms
      → All (IsSafe s) (networks_of s (first_world s) ms)
  pub seats : (runs : ℕ → Bool) (s : Setting) (ms : List Moment) → IsGoodSetting s → AreRuns runs s ms → IsCourse runs s (first_world s) ms
      → (node : ℕ) (m : Member) → runs node ≡ true → numbered s.members node ≡ Some m
      → seat_at (course_after s (first_world s) ms) (present_life (course_after s (first_world s) ms) node) ≡ Some (seat_after (first_seat m) (acts_at node ms))

-- ---- what they hold at their end

-- the node of this member has run to its end, with memory for each call, in this course; and its agent of prefixes, whose lists it writes, is this
pub record RanTo (s : Setting) (ms : List Moment) (node : ℕ) (manager : ManagerState) : Type 0 where
  pub member : Member
  pub found : numbered s.members node ≡ Some member
  pub plan : DaemonPlan
  pub plan_is : plan.node ≡ member.plan
  pub roots_are : plan.roots ≡ member.roots
  pub old : Told
  pub new : Told
  pub workers : List Worker
  pub ran : Ran plan old new (Some workers)
  pub has : HasActs plan ran.opened ran.history ran.history
  pub happened : acts_at node ms ≡ has.acts
  pub agent : slice_get workers 0 ≡ Some (Manager manager)

-- no address is held by two nodes that have run to their ends in one network
abbrev pub RunningNodesHoldApart : Type 0
RunningNodesHoldApart = (runs : ℕ → Bool) (s : Setting) (ms : List Moment) → IsGoodSetting s → AreRuns runs s ms → IsCourse runs s (first_world s) ms
    → (j k : ℕ) (a b : ManagerState) → runs j ≡ true → runs k ≡ true → j ≢ k → RanTo s ms j a → RanTo s ms k b
    → (address : ℕ) → IsFree a.agent.pool address → ¬ IsFree b.agent.pool address
