-- A network whose members are nodes that serve keeps the promise.
use Rattle.std.proofs.Common.{◌≡◌, sym, ap, ◌∙◌, subst, ℕ, Bool, true, All, List, Some}
use Rattle.std.proofs.lemmas.List.Elements.{All-weaker}
use Rattle.grasp_laws_members.specs.Acts.{AreActs, seat_after}
use Rattle.grasp_laws_members.specs.Courses.{AreRunning, IsCourse, Moment, acts_at, course_after, networks_of}
use Rattle.grasp_laws_members.specs.Laws.{MembersTakeTurns}
use Rattle.grasp_laws_serving.proofs.Courses.{AreFit, acts_fit, served_course}
use Rattle.grasp_laws_serving.proofs.Lives.{front_fit, lived}
use Rattle.grasp_laws_serving.proofs.Members.{first_stands, first_there, member_is}
use Rattle.grasp_laws_serving.specs.Acts.{IsServiceOf}
use Rattle.grasp_laws_serving.specs.Courses.{IsServedCourse}
use Rattle.grasp_laws_serving.specs.Laws.{AreServices, ServingNodesAreSafe}
use Rattle.grasp_laws_serving.specs.Lives.{life_of}
use Rattle.grasp_model_network.proofs.Facts.{first_reached}
use Rattle.grasp_model_network.specs.GoodSetting.{IsGoodSetting}
use Rattle.grasp_model_network.specs.Openings.{first_seat}
use Rattle.grasp_model_network.specs.Runs.{IsReached, first_world}
use Rattle.grasp_model_network.specs.Setting.{Member, Setting, numbered}
use Rattle.grasp_model_network.specs.World.{Seat, present_life, seat_at}
use Rattle.grasp_model_script.specs.Laws.{EachNetworkIsSafe}
use Rattle.grasp_model_script.specs.Safe.{IsSafe}
use Rattle.grasp_node_main.specs.Networks.{NodesOpenAsSeats}
use Rattle.grasp_pool.specs.Functions.{pool_of}

module _ (take : MembersTakeTurns) (safe : EachNetworkIsSafe) (seated : NodesOpenAsSeats) (serves : ℕ → Bool) (s : Setting) (ms : List Moment) (good : IsGoodSetting s) (are : AreServices serves s ms)
    (course : IsServedCourse serves s (first_world s) ms) where
  fit_at : (node : ℕ) (m : Member) → IsServiceOf m (acts_at node ms) → AreFit (acts_at node ms)
  fit_at node m i =
      acts_fit i.front (acts_at node ms) i.are
      (front_fit seated i.plan (pool_of i.plan.roots) (life_of i.plan i.joining i.doors i.before i.after i.served) (lived i.plan i.joining i.doors i.before i.after i.served)
      i.fit.begins i.fit.heralds i.links i.front i.rest i.whole i.fed)

  course_is : IsCourse serves s (first_world s) ms
  course_is = served_course serves s ms (first_world s) (λ node is. let a = are node is in fit_at node a.0 a.2) course

  running : AreRunning serves s (first_world s) ms
  running = record {
    members = λ node is. let a = are node is in member_is s node a.0 a.1;
    acts = λ node seat is here.
        let a = are node is in subst (λ (y : Seat). AreActs y.core y.agent (acts_at node ms)) (sym (first_stands s node a.0 a.1 seat here)) a.2.may;
  }

  pub all_safe : All (IsSafe s) (networks_of s (first_world s) ms)
  all_safe =
      All-weaker (IsReached s) (IsSafe s) (λ w r. safe s w r) (networks_of s (first_world s) ms)
      (take.reached serves s (first_world s) ms (first_reached s good) running course_is)

  pub seats : (node : ℕ) (m : Member) → serves node ≡ true → numbered s.members node ≡ Some m
      → seat_at (course_after s (first_world s) ms) (present_life (course_after s (first_world s) ms) node) ≡ Some (seat_after (first_seat m) (acts_at node ms))
  seats node m is found = at_seat (first_there s node m found) where
    at_seat : (seat : Seat) × (seat_at (first_world s) (present_life (first_world s) node) ≡ Some seat)
        → seat_at (course_after s (first_world s) ms) (present_life (course_after s (first_world s) ms) node) ≡ Some (seat_after (first_seat m) (acts_at node ms))
    at_seat f =
        take.seats serves s (first_world s) ms (first_reached s good) running course_is node f.0 is f.1
        ∙ ap (λ (y : Seat). Some (seat_after y (acts_at node ms))) (first_stands s node m found f.0 f.1)

pub serving_nodes_are_safe : MembersTakeTurns → EachNetworkIsSafe → NodesOpenAsSeats → ServingNodesAreSafe
serving_nodes_are_safe take safe seated = record {
  safe = λ serves s ms good are course. all_safe take safe seated serves s ms good are course;
  seats = λ serves s ms good are course node m is found. seats take safe seated serves s ms good are course node m is found;
}
