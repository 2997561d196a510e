-- What the two sides of a negotiation in a network know of each other: what one side saw tells what the other said.
use Rattle.std.specs.Prelude.{◌≡◌, true, None, Some}
use Rattle.grasp_model_network.specs.Streams.{StreamState}
use Rattle.grasp_laws_network.specs.Views.{view_at}
use Rattle.grasp_model_network.specs.World.{WorldState}
use Rattle.grasp_session.specs.Laws.{IsView, OfferStands, OutcomeSays, Accepting}
use Rattle.grasp_session.specs.Messages.{Side, other}
use Rattle.grasp_session.specs.Transcript.{Transcript, is_going, is_mine, outcome_of, refusal}
use Rattle.grasp_laws_session.specs.Turns.{TurnSays}
use Rattle.grasp_session.specs.declared.answer.Act.TheVariants as act
use Rattle.grasp_laws_negotiation.specs.Negotiations.{OfEachNegotiation}

-- what a side of the stream saw is this
abbrev pub Saw : WorldState → StreamState → Side → Transcript → Type 0
Saw w t side v = view_at w t side ≡ Some v

pub record IsKnown (w : WorldState) (t : StreamState) : Type 0 where
  -- what a side saw is an earlier part of what was said, to which only the other side has added
  pub views : (side : Side) (v : Transcript) → Saw w t side v → IsView side t.said v
  -- a side whose session goes on and whose turn it is knows the whole, in which no end stands and the other side has offered
  pub turns : (side : Side) (v : Transcript) → Saw w t side v → is_going v ≡ true → is_mine v ≡ true → TurnSays side t.said v
  -- what a side that offers knows of its offer
  pub offers : (side : Side) (v : Transcript) → Saw w t side v → OfferStands side t.said v
  -- what its outcome says of what was said
  pub outcomes : (side : Side) (v : Transcript) → Saw w t side v → OutcomeSays side t.said v (outcome_of v)
  -- a side that may accept accepts the last offer of the other side, which knows it to be unanswered
  pub accepts : (side : Side) (v u : Transcript) → Saw w t side v → Saw w t (other side) u → refusal v act.End ≡ None → Accepting side t.said v u
  -- where a side may accept, the other side has a session
  pub peer : (side : Side) (v : Transcript) → Saw w t side v → refusal v act.End ≡ None → (u : Transcript) × Saw w t (other side) u

abbrev pub NegotiationsAreKnown : Type 0
NegotiationsAreKnown = OfEachNegotiation IsKnown
