-- The course of a network some of whose members serve: what the world outside them is to keep to, and nothing that is their own to say.
use Rattle.std.specs.Prelude.{◌≡◌, ℕ, Bool, true, false, List, [], ◌∷◌, Some}
use Rattle.grasp_laws_members.specs.Courses.{MayBe, Moment, after_moment, at_node, elsewhere, of_want}
use Rattle.grasp_laws_members.specs.Giving.{Gives}
use Rattle.grasp_model_network.specs.Setting.{Setting, numbered}
use Rattle.grasp_model_network.specs.World.{WorldState, is_too_much}
use Rattle.grasp_model_network.specs.declared.event.Event.{Event}
use Rattle.grasp_model_network.specs.declared.event.Event.TheVariants as event
use Rattle.grasp_types.specs.declared.call.Call.{Call}
use Rattle.grasp_types.specs.declared.traffic.Input.{Input}
use Rattle.grasp_types.specs.declared.traffic.Input.TheVariants as input

-- a call of the agent of prefixes, or one of another agent: which calls these make is theirs
abbrev pub IsCallBy : ℕ → Bool → ℕ → Call → Event → Type 0
IsCallBy node true asa call e = e ≡ event.Agent node true
IsCallBy node false asa call e = e ≡ event.Api node asa call true

-- the input comes to the member by this event: what comes from outside, the network can give it at this moment
abbrev pub Comes : Setting → WorldState → ℕ → Bool → Input → Event → Type 0
Comes s w node own (input.Api asa call) e = IsCallBy node own asa call e
Comes s w node own i e = Gives s w node own i e

-- What comes to a member that serves, the network can give it, and no more was sent then than may be; what it wants, it wants of a peer of the network;
-- and each other turn may be taken, and leaves the members that serve.
abbrev pub MayCome : (ℕ → Bool) → Setting → WorldState → Moment → Type 0
MayCome serves s w (at_node node x e) = (serves node ≡ true) × Comes s w node x.own x.input e × (is_too_much (after_moment s w (at_node node x e)) ≡ false)
MayCome serves s w (of_want node length longest peer number) = (serves node ≡ true) × (numbered s.peers number ≡ Some peer)
MayCome serves s w (elsewhere t) = MayBe serves s w (elsewhere t)

-- one after the other
abbrev pub IsServedCourse : (ℕ → Bool) → Setting → WorldState → List Moment → Type 0
IsServedCourse serves s w [] = Unit {0}
IsServedCourse serves s w (m ∷ ms) = MayCome serves s w m × IsServedCourse serves s (after_moment s w m) ms
