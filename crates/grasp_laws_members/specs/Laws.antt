-- A node that runs is a part of a network: what happens at it is what turns of the network do.
use Rattle.std.specs.Prelude.{◌≡◌, ℕ, All, Bool, true, List, Some}
use Rattle.grasp_laws_members.specs.Acts.{seat_after}
use Rattle.grasp_laws_members.specs.Courses.{AreRunning, IsCourse, Moment, acts_at, course_after, networks_of}
use Rattle.grasp_model_network.specs.Events.{Occurs, after_event}
use Rattle.grasp_model_network.specs.Runs.{IsReached}
use Rattle.grasp_model_network.specs.Setting.{Setting}
use Rattle.grasp_model_network.specs.Visits.{Choice}
use Rattle.grasp_model_network.specs.World.{Seat, WorldState, present_life, seat_at, with_seat}
use Rattle.grasp_model_network.specs.declared.event.Event.TheVariants as event
use Rattle.grasp_model_node.specs.Begin.{begin}

-- a clock begins a step of its member's node, by the reading that it shows or by the node's own where that is larger, and changes nothing else
abbrev pub ClocksBeginSteps : Type 0
ClocksBeginSteps = (s : Setting) (w : WorldState) (node now : ℕ) (c : Choice) (seat : Seat) → seat_at w (present_life w node) ≡ Some seat → Occurs s w (event.Clock node now) c
    → after_event s w (event.Clock node now) c ≡ with_seat w (present_life w node) (record seat { core = begin seat.core now })

-- where the members that run are given what the network can give them
pub record MembersTakeTurns : Type 0 where
  -- turns lead to the network after each moment
  pub reached : (runs : ℕ → Bool) (s : Setting) (w : WorldState) (ms : List Moment) → IsReached s w → AreRunning runs s w ms → IsCourse runs s w ms
      → All (IsReached s) (networks_of s w ms)
  -- and in the last one each member that runs stands as it does after what happened at it, with what it has queued, and so does its agent
  pub seats : (runs : ℕ → Bool) (s : Setting) (w : WorldState) (ms : List Moment) → IsReached s w → AreRunning runs s w ms → IsCourse runs s w ms
      → (node : ℕ) (seat : Seat) → runs node ≡ true → seat_at w (present_life w node) ≡ Some seat
      → seat_at (course_after s w ms) (present_life (course_after s w ms) node) ≡ Some (seat_after seat (acts_at node ms))
