-- Facts of a network's worlds, seats and streams that several crates use.
use Rattle.std.proofs.Common.{[], refl, ℕ, Option, ◌≡◌, Some, None, sym, ap, ◌∙◌, List, All, ◌==◌, Bool, cond, slice_get, ◌-◌, true, false, ◌∷◌, zero, subst, suc}
use Rattle.std.proofs.lemmas.Bool.{eq-eqb, eqb-true, false≢true}
use Rattle.std.proofs.lemmas.List.Elements.{All-head, All-tail}
use Rattle.std.proofs.lemmas.Option.{none-some, same_Some}
use Rattle.grasp_model_network.specs.EventSteps.{agent_seat, agent_input}
use Rattle.grasp_model_network.specs.GoodSetting.{IsGoodSetting}
use Rattle.grasp_model_network.specs.Runs.{IsReached, first_world}
use Rattle.grasp_model_network.specs.Setting.{Setting, numbered}
use Rattle.grasp_model_network.specs.Streams.{is_number}
use Rattle.grasp_model_network.specs.Turns.{AreTurns, world_turned}
use Rattle.grasp_model_network.specs.Visits.{Visit}
use Rattle.grasp_model_network.specs.World.{Seat}

-- the first world of a good setting is reached
pub first_reached : (s : Setting) → IsGoodSetting s → IsReached s (first_world s)
unfolding AreTurns world_turned
first_reached s good = record { good = good; turns = []; run = tt; last = refl }

-- an agent's visit has the agent's input
pub agent_given : (node : ℕ) (v : Visit) (o : Option Seat) → agent_seat node o ≡ Some v → v.input ≡ agent_input v.seat.agent
agent_given node v None is = absurd (none-some v is)
agent_given node v (Some seat) is = at_seat (same_Some (record { node = node; seat = seat; now = seat.core.reading; input = agent_input seat.agent }) v is) where
  at_seat : record { node = node; seat = seat; now = seat.core.reading; input = agent_input seat.agent } ≡ v → v.input ≡ agent_input v.seat.agent
  at_seat e = sym (ap (λ (x : Visit). x.input) e) ∙ ap (λ (x : Visit). agent_input x.seat.agent) e

slice_all : {X : Type 0} (P : X → Type 0) (xs : List X) (i : ℕ) (x : X) → All P xs → slice_get xs i ≡ Some x → P x
slice_all P [] i x all e = absurd (none-some x e)
slice_all P (y ∷ ys) zero x all e = subst P (same_Some y x e) (All-head P y ys all)
slice_all P (y ∷ ys) (suc i) x all e = slice_all P ys i x (All-tail P y ys all) e

-- the number that the test of streams finds is there
pub number_is : (k : ℕ) (o : Option ℕ) → is_number k o ≡ true → o ≡ Some k
number_is k None is = absurd (false≢true is)
number_is k (Some n) is = ap (λ x. Some x) (eqb-true n k is)

-- and the test finds the number that is there
pub number_passes : (k : ℕ) (o : Option ℕ) → o ≡ Some k → is_number k o ≡ true
number_passes k o is = ap (is_number k) is ∙ eq-eqb k k refl

-- what holds of all holds of each by its number
pub numbered_all : {X : Type 0} (P : X → Type 0) (xs : List X) (n : ℕ) (x : X) → All P xs → numbered xs n ≡ Some x → P x
numbered_all P xs n x all e = by_zero (n == 0) e where
  by_zero : (b : Bool) → cond b None (slice_get xs (n - 1)) ≡ Some x → P x
  by_zero true f = absurd (none-some x f)
  by_zero false f = slice_all P xs (n - 1) x all f
