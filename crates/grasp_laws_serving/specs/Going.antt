-- A course of members that serve can go on: what it asks for can be met.
use Rattle.std.specs.Prelude.{◌≡◌, ℕ, Bool, true, length, Some}
use Rattle.grasp_laws_members.specs.Acts.{IsTaken, Taken}
use Rattle.grasp_laws_members.specs.Courses.{at_node}
use Rattle.grasp_laws_serving.specs.Courses.{MayCome}
use Rattle.grasp_model_network.specs.Plans.{IsNode}
use Rattle.grasp_model_network.specs.Runs.{IsReached}
use Rattle.grasp_model_network.specs.Setting.{Setting}
use Rattle.grasp_model_network.specs.World.{Seat, WorldState, present_life, seat_at}
use Rattle.grasp_model_network.specs.declared.event.Event.TheVariants as event

-- the member can make the next call of its agent of prefixes as the next moment of a course
pub record CanGoOn (serves : ℕ → Bool) (s : Setting) (w : WorldState) (node : ℕ) (seat : Seat) : Type 0 where
  pub taken : Taken
  pub own : taken.own ≡ true
  pub is_taken : IsTaken seat.core seat.agent taken
  pub may : MayCome serves s w (at_node node taken (event.Agent node true))

-- so can each member that serves, in every network that turns lead to
abbrev pub ServedCoursesGoOn : Type 0
ServedCoursesGoOn = (serves : ℕ → Bool) (s : Setting) (w : WorldState) → IsReached s w → (node : ℕ) (seat : Seat) → serves node ≡ true → IsNode (length s.members) node
    → seat_at w (present_life w node) ≡ Some seat → CanGoOn serves s w node seat
