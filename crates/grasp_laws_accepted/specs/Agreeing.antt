-- What it means for a prefix in doubt that the taking side has accepted (RFC 8990, section 2.5.5).
use Rattle.std.specs.Prelude.{◌≡◌, true, Some, ℕ, slice_get}
use Rattle.grasp_laws_agents.specs.Giving.{offered_by}
use Rattle.grasp_laws_listed.specs.Doubts.{IsDoubted}
use Rattle.grasp_laws_negotiation.specs.Knowing.{Saw}
use Rattle.grasp_model_network.specs.Accepting.{has_accepted, offering_side, taking_side}
use Rattle.grasp_model_network.specs.Runs.{IsReached}
use Rattle.grasp_model_network.specs.Setting.{Setting}
use Rattle.grasp_model_network.specs.Streams.{StreamState}
use Rattle.grasp_model_network.specs.World.{Offered, Seat, WorldState}
use Rattle.grasp_session.specs.Messages.{Side}
use Rattle.grasp_session.specs.Transcript.{Transcript, outcome_of}
use Rattle.grasp_types.specs.declared.objective.Objective.{Objective}
use Rattle.grasp_types.specs.declared.session.By.TheVariants.{Mine}
use Rattle.grasp_types.specs.declared.session.Outcome.TheVariants as outcome

-- the objective offers the prefix, as this side offers
abbrev pub Offers : Side → Objective → Offered → Type 0
Offers side agreed o = offered_by side agreed.value ≡ Some o.prefix

-- in every network that turns lead to: where an offer is listed for a stream, and the life that made it has its prefix in doubt, or has ended, and the
-- taking side has accepted, this side came to an agreement by its own acceptance, by which the prefix is offered
abbrev pub AcceptedDoubtsAgree : Type 0
AcceptedDoubtsAgree = (s : Setting) (w : WorldState) → IsReached s w → (seat : Seat) (o : Offered) (place : ℕ) → IsDoubted w seat o place → (t : StreamState) → slice_get w.streams place ≡ Some t
    → has_accepted (taking_side t) t.said ≡ true → (v : Transcript) → Saw w t (taking_side t) v
    → (agreed : Objective) × (outcome_of v ≡ Some (outcome.Agreed Mine agreed)) × Offers (offering_side t) agreed o
