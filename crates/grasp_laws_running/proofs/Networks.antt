-- A network whose members are nodes that run keeps the promise.
use Rattle.std.proofs.Common.{◌≡◌, sym, ap, ◌∙◌, subst, ℕ, Bool, true, All, List, length, Some}
use Rattle.std.proofs.lemmas.List.Elements.{All-weaker}
use Rattle.std.proofs.lemmas.Option.{same_Some}
use Rattle.grasp_laws_members.specs.Acts.{AreActs, seat_after}
use Rattle.grasp_laws_members.specs.Courses.{AreRunning, IsCourse, Moment, acts_at, course_after, networks_of}
use Rattle.grasp_laws_members.specs.Laws.{MembersTakeTurns}
use Rattle.grasp_laws_network.proofs.Appended.{numbered_get}
use Rattle.grasp_laws_network.proofs.Here.{numbered_within}
use Rattle.grasp_laws_network.proofs.Lists.{numbered_there}
use Rattle.grasp_laws_network.proofs.Lives.{first_present}
use Rattle.grasp_laws_network.proofs.Staying.{first_seats}
use Rattle.grasp_laws_prefixes.proofs.FirstPrefixes.{IsFirst, is_first}
use Rattle.grasp_laws_running.specs.Acts.{IsRunOf}
use Rattle.grasp_laws_running.specs.Laws.{AreRuns, RunningNodesAreSafe}
use Rattle.grasp_model_network.proofs.Facts.{first_reached}
use Rattle.grasp_model_network.specs.GoodSetting.{IsGoodSetting}
use Rattle.grasp_model_network.specs.Openings.{first_seat, opened_seat}
use Rattle.grasp_model_network.specs.Plans.{IsNode}
use Rattle.grasp_model_network.specs.Runs.{IsReached, first_world}
use Rattle.grasp_model_network.specs.Setting.{Member, Setting, numbered}
use Rattle.grasp_model_network.specs.World.{Seat, present_life, seat_at}
use Rattle.grasp_model_node.specs.Node.{NodeState, first_node}
use Rattle.grasp_model_node.specs.declared.plan.NodePlan.{NodePlan}
use Rattle.grasp_model_script.specs.Laws.{EachNetworkIsSafe}
use Rattle.grasp_model_script.specs.Safe.{IsSafe}
use Rattle.grasp_node_main.specs.Networks.{NodesOpenAsSeats}
use Rattle.grasp_node_main.specs.Openings.{opened_agent, openings}
use Rattle.grasp_pool.specs.Functions.{pool_of}
use Rattle.grasp_pool.specs.declared.roots.RootPrefix.{RootPrefix}
use Rattle.grasp_shared.specs.History.{IsLegalHistory}

-- a member begins as its node that ran was opened
pub opens : NodesOpenAsSeats → (m : Member) (plan : NodePlan) (roots : List RootPrefix) (opened : NodeState) → plan ≡ m.plan → roots ≡ m.roots → IsLegalHistory (first_node plan) openings opened
    → first_seat m ≡ record { core = opened; agent = opened_agent (pool_of roots) }
opens seats m plan roots opened same held legal =
    ap (λ (p : NodePlan). opened_seat p (pool_of m.roots)) (sym same)
    ∙ (ap (λ (rs : List RootPrefix). opened_seat plan (pool_of rs)) (sym held) ∙ seats plan (pool_of roots) opened legal)

-- a member of the first network
module _ (s : Setting) (node : ℕ) (m : Member) (found : numbered s.members node ≡ Some m) where
  pub member_is : IsNode (length s.members) node
  member_is = numbered_within s.members node m found

  pub first_stands : (seat : Seat) → seat_at (first_world s) (present_life (first_world s) node) ≡ Some seat → seat ≡ first_seat m
  first_stands seat here = from (is_first s node seat (subst (λ (n : ℕ). seat_at (first_world s) n ≡ Some seat) (first_present s node member_is) here)) where
    from : IsFirst s node seat → seat ≡ first_seat m
    from f = f.made ∙ ap first_seat (same_Some f.member m (sym f.stands ∙ numbered_get s.members node m found))

  -- it is there
  pub first_there : (seat : Seat) × (seat_at (first_world s) (present_life (first_world s) node) ≡ Some seat)
  first_there =
      numbered_there (first_world s).seats (present_life (first_world s) node)
      (subst (λ (n : ℕ). IsNode n (present_life (first_world s) node)) (sym (first_seats s)) (subst (λ (n : ℕ). IsNode (length s.members) n) (sym (first_present s node member_is)) member_is))

module _ (take : MembersTakeTurns) (safe : EachNetworkIsSafe) (seated : NodesOpenAsSeats) (runs : ℕ → Bool) (s : Setting) (ms : List Moment) (good : IsGoodSetting s) (are : AreRuns runs s ms) (course : IsCourse runs s (first_world s) ms) where
  may : (node : ℕ) (m : Member) (r : IsRunOf m (acts_at node ms)) → AreActs (first_seat m).core (first_seat m).agent (acts_at node ms)
  may node m r = subst (λ (y : Seat). AreActs y.core y.agent (acts_at node ms)) (sym (opens seated m r.plan.node r.plan.roots r.ran.opened r.node r.roots r.ran.opening)) r.begins.may

  running : AreRunning runs s (first_world s) ms
  running = record {
    members = λ node is. let a = are node is in member_is s node a.0 a.1;
    acts = λ node seat is here.
        let a = are node is in subst (λ (y : Seat). AreActs y.core y.agent (acts_at node ms)) (sym (first_stands s node a.0 a.1 seat here)) (may node a.0 a.2);
  }

  pub all_safe : All (IsSafe s) (networks_of s (first_world s) ms)
  all_safe =
      All-weaker (IsReached s) (IsSafe s) (λ w r. safe s w r) (networks_of s (first_world s) ms)
      (take.reached runs s (first_world s) ms (first_reached s good) running course)

  pub seats : (node : ℕ) (m : Member) → runs node ≡ true → numbered s.members node ≡ Some m
      → seat_at (course_after s (first_world s) ms) (present_life (course_after s (first_world s) ms) node) ≡ Some (seat_after (first_seat m) (acts_at node ms))
  seats node m is found = at_seat (first_there s node m found) where
    at_seat : (seat : Seat) × (seat_at (first_world s) (present_life (first_world s) node) ≡ Some seat)
        → seat_at (course_after s (first_world s) ms) (present_life (course_after s (first_world s) ms) node) ≡ Some (seat_after (first_seat m) (acts_at node ms))
    at_seat f =
        take.seats runs s (first_world s) ms (first_reached s good) running course node f.0 is f.1
        ∙ ap (λ (y : Seat). Some (seat_after y (acts_at node ms))) (first_stands s node m found f.0 f.1)

pub running_nodes_are_safe : MembersTakeTurns → EachNetworkIsSafe → NodesOpenAsSeats → RunningNodesAreSafe
running_nodes_are_safe take safe seated = record {
  safe = λ runs s ms good are course. all_safe take safe seated runs s ms good are course;
  seats = λ runs s ms good are course node m is found. seats take safe seated runs s ms good are course node m is found;
}
