-- The course of a network some of whose members run: what happens at them, and whatever happens elsewhere in it.
use Rattle.std.specs.Prelude.{◌≡◌, ◌==◌, ℕ, Bool, true, false, List, [], ◌∷◌, Option, None, Some, length, if◌then◌else◌}
use Rattle.grasp_laws_members.specs.Acts.{Act, AreActs, Taken, took, wanted}
use Rattle.grasp_laws_members.specs.Giving.{Gives}
use Rattle.grasp_model_network.specs.Events.{AreLengths}
use Rattle.grasp_model_network.specs.Plans.{IsNode}
use Rattle.grasp_model_network.specs.Setting.{Setting, numbered}
use Rattle.grasp_model_network.specs.Turns.{IsTurn, TakenTurn, after_turn, world_turned}
use Rattle.grasp_model_network.specs.Visits.{Choice, no_choice}
use Rattle.grasp_model_network.specs.World.{Seat, WorldState, is_too_much, present_life, seat_at}
use Rattle.grasp_model_network.specs.declared.event.Event.{Event}
use Rattle.grasp_model_network.specs.declared.event.Event.TheVariants as event
use Rattle.grasp_model_network.specs.declared.turn.Turn.TheVariants as turn
use Rattle.grasp_model_node.specs.Begin.{begin}
use Rattle.grasp_model_node.specs.Draining as core
use Rattle.grasp_types.specs.declared.address.Locator.{Locator}
use Rattle.grasp_types.specs.declared.reply.Reply.TheVariants as reply

-- ---- moments

-- a member that runs took something, by this event of the network; its agent was given a want, whose peer has this number; or a turn was taken
-- elsewhere in the network
pub data Moment : Type 0 where
  at_node : ℕ → Taken → Event → Moment
  of_want : ℕ → ℕ → ℕ → Locator → ℕ → Moment
  elsewhere : TakenTurn → Moment

-- what of it happened at this member
abbrev pub joined_at : Bool → Act → List Act → List Act
joined_at b x xs = if b then x ∷ xs else xs

abbrev pub acts_at : ℕ → List Moment → List Act
acts_at node [] = []
acts_at node (at_node k x e ∷ ms) = joined_at (k == node) (took x) (acts_at node ms)
acts_at node (of_want k length longest peer number ∷ ms) = joined_at (k == node) (wanted length longest peer) (acts_at node ms)
acts_at node (elsewhere t ∷ ms) = acts_at node ms

-- ---- the network after them

abbrev pub event_turn : Event → Choice → TakenTurn
event_turn e c = record { turn = turn.Event e; choice = c }

-- how a clock that shows this comes out at a node: its step begins, and nothing is drained
abbrev pub clock_choice : ℕ → Option Seat → Choice
clock_choice now None = no_choice
clock_choice now (Some seat) = record {
  coming = no_choice.coming;
  reply = reply.Outputs (core.drained (begin seat.core now) 0);
  after = core.after_drain (begin seat.core now) 0;
}

abbrev pub clock_turn : WorldState → ℕ → ℕ → TakenTurn
clock_turn w node now = event_turn (event.Clock node now) (clock_choice now (seat_at w (present_life w node)))

-- the turns that a moment comes to: what a node took is its clock, and then the event, which is held
abbrev pub turns_of : WorldState → Moment → List TakenTurn
turns_of w (at_node node x e) = clock_turn w node x.now ∷ event_turn e x.choice ∷ []
turns_of w (of_want node length longest peer number) = event_turn (event.Want node length longest number) no_choice ∷ []
turns_of w (elsewhere t) = t ∷ []

abbrev pub after_moment : Setting → WorldState → Moment → WorldState
after_moment s w m = world_turned s w (turns_of w m)

abbrev pub course_after : Setting → WorldState → List Moment → WorldState
course_after s w [] = w
course_after s w (m ∷ ms) = course_after s (after_moment s w m) ms

-- the network before the first moment, and after each
abbrev pub networks_of : Setting → WorldState → List Moment → List WorldState
networks_of s w [] = w ∷ []
networks_of s w (m ∷ ms) = w ∷ networks_of s (after_moment s w m) ms

-- ---- which moments may come

-- the members that run are as they were
abbrev pub LeavesRunning : (ℕ → Bool) → WorldState → WorldState → Type 0
LeavesRunning runs w x = (node : ℕ) → runs node ≡ true → (present_life x node ≡ present_life w node) × (seat_at x (present_life w node) ≡ seat_at w (present_life w node))

-- What a member that runs takes the network can give it, and no more was sent then than may be; a want asks for a prefix, at a peer of the
-- network; and each other turn may be taken, and leaves the members that run.
abbrev pub MayBe : (ℕ → Bool) → Setting → WorldState → Moment → Type 0
MayBe runs s w (at_node node x e) = (runs node ≡ true) × Gives s w node x.own x.input e × (is_too_much (after_moment s w (at_node node x e)) ≡ false)
MayBe runs s w (of_want node length longest peer number) = (runs node ≡ true) × (numbered s.peers number ≡ Some peer) × AreLengths length longest
MayBe runs s w (elsewhere t) = IsTurn s w t.turn t.choice × LeavesRunning runs w (after_turn s w t.turn t.choice)

-- one after the other
abbrev pub IsCourse : (ℕ → Bool) → Setting → WorldState → List Moment → Type 0
IsCourse runs s w [] = Unit {0}
IsCourse runs s w (m ∷ ms) = MayBe runs s w m × IsCourse runs s (after_moment s w m) ms

-- ---- the members that run

-- they are members, and what happens at each of them may happen at its node and its agent as these stand in the network
pub record AreRunning (runs : ℕ → Bool) (s : Setting) (w : WorldState) (ms : List Moment) : Type 0 where
  pub members : (node : ℕ) → runs node ≡ true → IsNode (length s.members) node
  pub acts : (node : ℕ) (seat : Seat) → runs node ≡ true → seat_at w (present_life w node) ≡ Some seat → AreActs seat.core seat.agent (acts_at node ms)
