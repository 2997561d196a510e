-- Nodes that run and begin anew are members of a network, over all their lives, as far as they are given what a network can give.
use Rattle.std.specs.Prelude.{◌≡◌, ◌<◌, ◌^◌, ℕ, All, Bool, true, List, Some, length}
use Rattle.grasp_laws_lives.specs.Courses.{AreLiving, IsLivedCourse, LifeMoment, lives_after, lives_at, networks_lived, seat_lived}
use Rattle.grasp_laws_lives.specs.Stores.{HaveLived}
use Rattle.grasp_model_network.specs.GoodSetting.{IsGoodSetting}
use Rattle.grasp_model_network.specs.Openings.{first_seat}
use Rattle.grasp_model_network.specs.Runs.{IsReached, first_world}
use Rattle.grasp_model_network.specs.Setting.{Member, Setting, numbered}
use Rattle.grasp_model_network.specs.World.{Seat, WorldState, present_life, seat_at}
use Rattle.grasp_model_script.specs.Safe.{IsSafe}

-- ---- lives that begin by images which may open them

-- where each life of a member that runs begins by an image by which the agent of the one before may be opened anew
pub record LivesTakeTurns : Type 0 where
  -- turns lead to the network after each moment
  pub reached : (runs : ℕ → Bool) (s : Setting) (w : WorldState) (ms : List LifeMoment) → IsReached s w → AreLiving runs s w ms → IsLivedCourse runs s w ms
      → All (IsReached s) (networks_lived s w ms)
  -- and in the last one each member that runs stands as it does after what happened in its last life, with what it has queued, and so does its agent
  pub seats : (runs : ℕ → Bool) (s : Setting) (w : WorldState) (ms : List LifeMoment) → IsReached s w → AreLiving runs s w ms → IsLivedCourse runs s w ms
      → (node : ℕ) (m : Member) (seat : Seat) → runs node ≡ true → numbered s.members node ≡ Some m → seat_at w (present_life w node) ≡ Some seat
      → seat_at (lives_after s w ms) (present_life (lives_after s w ms) node) ≡ Some (seat_lived m.plan seat (lives_at node ms))

-- ---- lives whose pool is kept

-- each member that runs is one of the network, which has lived so
abbrev pub AllHaveLived : (ℕ → Bool) → Setting → List LifeMoment → Type 0
AllHaveLived runs s ms = (node : ℕ) → runs node ≡ true → (m : Member) × (numbered s.members node ≡ Some m) × HaveLived m (lives_at node ms)

-- where each life begins by the image that a crash may have left of the one before, or with the member's roots, all lives together are turns of one network:
-- it is safe at every moment, and each member stands in it as it does after its lives
pub record KeptLivesAreSafe : Type 0 where
  pub safe : (runs : ℕ → Bool) (s : Setting) (ms : List LifeMoment) → IsGoodSetting s → length ms < 2 ^ 62 → AllHaveLived runs s ms
      → IsLivedCourse runs s (first_world s) ms → All (IsSafe s) (networks_lived s (first_world s) ms)
  pub seats : (runs : ℕ → Bool) (s : Setting) (ms : List LifeMoment) → IsGoodSetting s → length ms < 2 ^ 62 → AllHaveLived runs s ms
      → IsLivedCourse runs s (first_world s) ms → (node : ℕ) (m : Member) → runs node ≡ true → numbered s.members node ≡ Some m
      → seat_at (lives_after s (first_world s) ms) (present_life (lives_after s (first_world s) ms) node) ≡ Some (seat_lived m.plan (first_seat m) (lives_at node ms))
