-- Nodes that serve and begin anew are members of a network, over all their lives, as far as they are given what a network can give.
use Rattle.std.specs.Prelude.{◌≡◌, ◌<◌, ◌^◌, ℕ, All, Bool, true, List, [], ◌∷◌, Some, length}
use Rattle.grasp_laws_lives.specs.Courses.{LifeMoment, after_life_moment, anew, lives_after, lives_at, networks_lived, seat_lived, within}
use Rattle.grasp_laws_served_lives.specs.Lives.{HaveServed}
use Rattle.grasp_laws_serving.specs.Courses.{MayCome}
use Rattle.grasp_model_network.specs.GoodSetting.{IsGoodSetting}
use Rattle.grasp_model_network.specs.Openings.{first_seat}
use Rattle.grasp_model_network.specs.Runs.{first_world}
use Rattle.grasp_model_network.specs.Setting.{Member, Setting, numbered}
use Rattle.grasp_model_network.specs.World.{WorldState, present_life, seat_at}
use Rattle.grasp_model_script.specs.Safe.{IsSafe}

-- ---- what the world outside is to keep to

-- within lives what it is to keep to in one; and a member that serves may begin anew at any time
abbrev pub MayComeLived : (ℕ → Bool) → Setting → WorldState → LifeMoment → Type 0
MayComeLived serves s w (within m) = MayCome serves s w m
MayComeLived serves s w (anew node image) = serves node ≡ true

-- one after the other
abbrev pub IsServedLivedCourse : (ℕ → Bool) → Setting → WorldState → List LifeMoment → Type 0
IsServedLivedCourse serves s w [] = Unit {0}
IsServedLivedCourse serves s w (m ∷ ms) = MayComeLived serves s w m × IsServedLivedCourse serves s (after_life_moment s w m) ms

-- ---- networks of nodes that serve

-- each member that serves is one of the network, whose node served so in all its lives
abbrev pub AllHaveServed : (ℕ → Bool) → Setting → List LifeMoment → Type 0
AllHaveServed serves s ms = (node : ℕ) → serves node ≡ true → (m : Member) × (numbered s.members node ≡ Some m) × HaveServed m (lives_at node ms)

-- Where nodes that serve are members of a network, begin anew with what a crash may have left of their stores, and are given what the network can give them,
-- the promise is kept by the network at every moment, over all lives; and each node and its agent stand there as they do after their lives.
pub record ServedLivesAreSafe : Type 0 where
  pub safe : (serves : ℕ → Bool) (s : Setting) (ms : List LifeMoment) → IsGoodSetting s → length ms < 2 ^ 62 → AllHaveServed serves s ms
      → IsServedLivedCourse serves s (first_world s) ms → All (IsSafe s) (networks_lived s (first_world s) ms)
  pub seats : (serves : ℕ → Bool) (s : Setting) (ms : List LifeMoment) → IsGoodSetting s → length ms < 2 ^ 62 → AllHaveServed serves s ms
      → IsServedLivedCourse serves s (first_world s) ms → (node : ℕ) (m : Member) → serves node ≡ true → numbered s.members node ≡ Some m
      → seat_at (lives_after s (first_world s) ms) (present_life (lives_after s (first_world s) ms) node) ≡ Some (seat_lived m.plan (first_seat m) (lives_at node ms))
