-- What two nodes hold that ran to their ends in one network is apart.
use Rattle.std.proofs.Common.{◌≡◌, ◌≢◌, sym, ap, ◌∙◌, subst, ℕ, Bool, true, All, List, [], ◌∷◌, slice_get, Option, Some, None}
use Rattle.std.proofs.lemmas.List.Elements.{All-head, All-tail}
use Rattle.std.proofs.lemmas.Option.{same_Some}
use Rattle.grasp_agent.specs.States.{AgentState}
use Rattle.grasp_laws_members.specs.Acts.{Act, agent_after, seat_after}
use Rattle.grasp_laws_members.specs.Courses.{IsCourse, Moment, acts_at, after_moment, course_after, networks_of}
use Rattle.grasp_laws_network.proofs.Here.{numbered_within}
use Rattle.grasp_laws_network.proofs.LivesKept.{lives_are_kept}
use Rattle.grasp_laws_network.specs.Authorities.{Holds}
use Rattle.grasp_laws_running.proofs.Networks.{opens}
use Rattle.grasp_laws_running.specs.Laws.{AreRuns, RanTo, RunningNodesAreSafe, RunningNodesHoldApart}
use Rattle.grasp_model_network.specs.GoodSetting.{IsGoodSetting}
use Rattle.grasp_model_network.specs.Openings.{first_seat}
use Rattle.grasp_model_network.specs.Runs.{first_world}
use Rattle.grasp_model_network.specs.Setting.{Setting}
use Rattle.grasp_model_network.specs.World.{Seat, WorldState, member_of, present_life}
use Rattle.grasp_model_script.specs.Safe.{IsSafe}
use Rattle.grasp_node_main.specs.Manager.{ManagerState}
use Rattle.grasp_node_main.specs.Networks.{NodesOpenAsSeats}
use Rattle.grasp_node_main.specs.Openings.{opened_agent}
use Rattle.grasp_node_main.specs.declared.worker.Worker.{Worker}
use Rattle.grasp_node_main.specs.declared.worker.Worker.TheVariants.{Manager, Beacon, Reader}
use Rattle.grasp_pool.specs.Functions.{pool_of}
use Rattle.grasp_pool.specs.Holdings.{IsFree}

-- the agent of prefixes among a node's agents
abbrev manager_in : Option Worker → Option ManagerState
manager_in None = None
manager_in (Some (Manager m)) = Some m
manager_in (Some (Beacon b)) = None
manager_in (Some (Reader r)) = None

-- the last network of a course
last_safe : (s : Setting) (ms : List Moment) (w : WorldState) → All (IsSafe s) (networks_of s w ms) → IsSafe s (course_after s w ms)
last_safe s [] w all = All-head (IsSafe s) w [] all
last_safe s (m ∷ ms) w all = last_safe s ms (after_moment s w m) (All-tail (IsSafe s) w (networks_of s (after_moment s w m) ms) all)

module _ (seated : NodesOpenAsSeats) (safe : RunningNodesAreSafe) (runs : ℕ → Bool) (s : Setting) (ms : List Moment) (good : IsGoodSetting s) (are : AreRuns runs s ms) (course : IsCourse runs s (first_world s) ms) where
  abbrev last : WorldState
  last = course_after s (first_world s) ms

  safe_last : IsSafe s last
  safe_last = last_safe s ms (first_world s) (safe.safe runs s ms good are course)

  -- a node that ran stands there with its agent
  module _ (node : ℕ) (m : ManagerState) (is : runs node ≡ true) (t : RanTo s ms node m) where
    agent_is : t.has.manager ≡ m
    agent_is =
        same_Some t.has.manager m
        (ap (λ (w : Worker). manager_in (Some w)) (sym t.has.leads) ∙ (ap (λ (ws : List Worker). manager_in (slice_get ws 0)) (sym t.ran.ends.1) ∙ ap manager_in t.agent))

    begins_as : (first_seat t.member).agent ≡ opened_agent (pool_of t.plan.roots)
    begins_as = ap (λ (y : Seat). y.agent) (opens seated t.member t.plan.node t.plan.roots t.ran.opened t.plan_is t.roots_are t.ran.opening)

    stands_as : agent_after (first_seat t.member).agent (acts_at node ms) ≡ m.agent
    stands_as =
        ap (λ (a : AgentState). agent_after a (acts_at node ms)) begins_as
        ∙ (ap (λ (xs : List Act). agent_after (opened_agent (pool_of t.plan.roots)) xs) t.happened
        ∙ (sym t.has.agent ∙ ap (λ (x : ManagerState). x.agent) agent_is))

    holds : (address : ℕ) → IsFree m.agent.pool address → Holds last (present_life last node) address
    holds address free = record {
      seat = seat_after (first_seat t.member) (acts_at node ms);
      here = safe.seats runs s ms good are course node t.member is t.found;
      free = subst (λ (a : AgentState). IsFree a.pool address) (sym stands_as) free;
    }

    own_life : member_of last (present_life last node) ≡ node
    own_life = (lives_are_kept s last safe_last.reached).own node (numbered_within s.members node t.member t.found)

  hold_apart : (j k : ℕ) (a b : ManagerState) → runs j ≡ true → runs k ≡ true → j ≢ k → RanTo s ms j a → RanTo s ms k b → (address : ℕ) → IsFree a.agent.pool address → ¬ IsFree b.agent.pool address
  hold_apart j k a b is also apart t u address free other =
      safe_last.prefixes.held (present_life last j) (present_life last k) address
      (λ e. apart (sym (own_life j a is t) ∙ (ap (member_of last) e ∙ own_life k b also u))) (holds j a is t address free) (holds k b also u address other)

pub running_nodes_hold_apart : NodesOpenAsSeats → RunningNodesAreSafe → RunningNodesHoldApart
running_nodes_hold_apart seated safe runs s ms good are course j k a b is also apart t u address free other =
    hold_apart seated safe runs s ms good are course j k a b is also apart t u address free other
