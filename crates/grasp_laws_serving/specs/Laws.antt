-- A node that serves is a member of a network, as far as it is given what a network can give: so the promise is one of nodes that serve.
use Rattle.std.specs.Prelude.{◌≡◌, ℕ, All, Bool, true, List, Some}
use Rattle.grasp_laws_members.specs.Acts.{seat_after}
use Rattle.grasp_laws_members.specs.Courses.{Moment, acts_at, course_after, networks_of}
use Rattle.grasp_laws_serving.specs.Acts.{IsServiceOf}
use Rattle.grasp_laws_serving.specs.Courses.{IsServedCourse}
use Rattle.grasp_model_network.specs.GoodSetting.{IsGoodSetting}
use Rattle.grasp_model_network.specs.Openings.{first_seat}
use Rattle.grasp_model_network.specs.Runs.{first_world}
use Rattle.grasp_model_network.specs.Setting.{Member, Setting, numbered}
use Rattle.grasp_model_network.specs.World.{present_life, seat_at}
use Rattle.grasp_model_script.specs.Safe.{IsSafe}

-- each member that serves is one of the network, whose node served so
abbrev pub AreServices : (ℕ → Bool) → Setting → List Moment → Type 0
AreServices serves s ms = (node : ℕ) → serves node ≡ true → (m : Member) × (numbered s.members node ≡ Some m) × IsServiceOf m (acts_at node ms)

-- Where nodes that serve are members of a network, and are given what it can give them, the promise is kept by the network at every moment; and each
-- node and its agent stand there as they do after what happened at them.
pub record ServingNodesAreSafe : Type 0 where
  pub safe : (serves : ℕ → Bool) (s : Setting) (ms : List Moment) → IsGoodSetting s → AreServices serves s ms → IsServedCourse serves s (first_world s) ms
      → All (IsSafe s) (networks_of s (first_world s) ms)
  pub seats : (serves : ℕ → Bool) (s : Setting) (ms : List Moment) → IsGoodSetting s → AreServices serves s ms → IsServedCourse serves s (first_world s) ms
      → (node : ℕ) (m : Member) → serves node ≡ true → numbered s.members node ≡ Some m
      → seat_at (course_after s (first_world s) ms) (present_life (course_after s (first_world s) ms) node) ≡ Some (seat_after (first_seat m) (acts_at node ms))
