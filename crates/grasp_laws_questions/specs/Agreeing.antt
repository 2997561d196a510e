-- What a side of a negotiation that has accepted came to (RFC 8990, section 2.5.5).
use Rattle.std.specs.Prelude.{◌≡◌, true, Some, ℕ, Contains, slice_get}
use Rattle.grasp_agent.specs.Calls.{objective_name}
use Rattle.grasp_laws_negotiation.specs.Knowing.{Saw}
use Rattle.grasp_laws_negotiation.specs.Negotiations.{IsNegotiation, OfEachNegotiation}
use Rattle.grasp_model_network.specs.Accepting.{has_accepted}
use Rattle.grasp_model_network.specs.Runs.{IsReached}
use Rattle.grasp_model_network.specs.Setting.{Setting}
use Rattle.grasp_model_network.specs.Streams.{StreamState}
use Rattle.grasp_model_network.specs.World.{Offered, WorldState}
use Rattle.grasp_session.specs.Conversation.{begun, newest_offer_by, requested, strip}
use Rattle.grasp_session.specs.Messages.{Near, Side, other}
use Rattle.grasp_session.specs.Transcript.{Transcript, outcome_of}
use Rattle.grasp_types.specs.declared.session.By.TheVariants.{Mine}
use Rattle.grasp_types.specs.declared.session.Outcome.TheVariants as outcome

-- a side that has said an acceptance, and had a session, came to an agreement by its own acceptance, on the last offer of the other side
abbrev pub AcceptedAgree : WorldState → StreamState → Type 0
AcceptedAgree w t = (side : Side) (v : Transcript) → Saw w t side v → has_accepted side t.said ≡ true → outcome_of v ≡ Some (outcome.Agreed Mine (newest_offer_by (other side) (strip t.said)))

-- so it is in each negotiation of every network that turns lead to
abbrev pub AcceptancesAgree : Type 0
AcceptancesAgree = OfEachNegotiation AcceptedAgree

-- where something was said, the side that dialled has a session
abbrev pub RequesterSaw : WorldState → StreamState → Type 0
RequesterSaw w t = begun (strip t.said) ≡ true → (v : Transcript) × Saw w t Near v

abbrev pub RequestersSaw : Type 0
RequestersSaw = OfEachNegotiation RequesterSaw

-- ---- the streams for which offers are listed

-- the stream is a negotiation of PrefixManager, in which something was said
pub record IsAsked (t : StreamState) : Type 0 where
  pub negotiation : IsNegotiation t
  pub asked : begun (strip t.said) ≡ true
  pub name : (requested t.said).name ≡ objective_name

-- in every network that turns lead to, so is each stream for which an offer is listed
abbrev pub ListedAreAsked : Type 0
ListedAreAsked = (s : Setting) (w : WorldState) → IsReached s w → (o : Offered) (place : ℕ) (t : StreamState) → Contains w.offers o → o.talk ≡ Some place → slice_get w.streams place ≡ Some t → IsAsked t
