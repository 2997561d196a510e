-- What is safe in the negotiations of a network: their steps are bounded, and two sides that agree hold one objective.
use Rattle.std.specs.Prelude.{◌≡◌, All, List, Option, None, Some}
use Rattle.grasp_model_network.specs.Runs.{Happening, IsRun, IsReached, worlds_from, first_world}
use Rattle.grasp_model_network.specs.GoodSetting.{IsGoodSetting}
use Rattle.grasp_model_network.specs.Setting.{Setting}
use Rattle.grasp_model_network.specs.Streams.{StreamState}
use Rattle.grasp_laws_network.specs.Views.{view_at}
use Rattle.grasp_model_network.specs.World.{WorldState}
use Rattle.grasp_session.specs.Conversation.{requested, strip}
use Rattle.grasp_session.specs.Laws.{Agreement, IsBounded}
use Rattle.grasp_session.specs.Messages.{Side, Near, Far}
use Rattle.grasp_session.specs.Transcript.{Transcript, outcome_of}
use Rattle.grasp_types.specs.declared.objective.Objective.{Objective}
use Rattle.grasp_types.specs.declared.session.By.{By}
use Rattle.grasp_types.specs.declared.session.Outcome.{Outcome}
use Rattle.grasp_types.specs.declared.session.Outcome.TheVariants as outcome
use Rattle.grasp_laws_negotiation.specs.Negotiations.{OfNegotiations}

-- fewer steps are made than the loop count of the request, and none where it is 0 (RFC 8990, section 2.8.6)
abbrev pub HasBoundedSteps : StreamState → Type 0
HasBoundedSteps t = IsBounded (requested (strip t.said)).loops (strip t.said)

abbrev pub outcome_in : Option Transcript → Option Outcome
outcome_in None = None
outcome_in (Some v) = outcome_of v

-- what came of the session that this side of the stream had, if it had one and something came of it
abbrev pub outcome_at : WorldState → StreamState → Side → Option Outcome
outcome_at w t side = outcome_in (view_at w t side)

-- where both sides report that they agreed, one did so by its own acceptance, and they hold the same objective: the last that the other side offered
abbrev pub SidesAgree : WorldState → StreamState → Type 0
SidesAgree w t = (a b : By) (o p : Objective) → outcome_at w t Near ≡ Some (outcome.Agreed a o) → outcome_at w t Far ≡ Some (outcome.Agreed b p) → Agreement a b o p t.said

pub record IsSafeTalk (w : WorldState) (t : StreamState) : Type 0 where
  pub bounded : HasBoundedSteps t
  pub agree : SidesAgree w t

-- each negotiation of the network is safe
abbrev pub IsSafeTalks : WorldState → Type 0
IsSafeTalks w = OfNegotiations w (IsSafeTalk w)

-- all negotiations are safe in every network that turns lead to, and in each network of a run of events
pub record TalksAreSafe : Type 0 where
  pub reached : (s : Setting) (w : WorldState) → IsReached s w → IsSafeTalks w
  pub run : (s : Setting) (hs : List Happening) → IsGoodSetting s → IsRun s (first_world s) hs → All IsSafeTalks (worlds_from s (first_world s) hs)
