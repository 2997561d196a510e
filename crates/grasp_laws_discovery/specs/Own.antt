-- What a discovery that is noted as answered was answered with.
use Rattle.std.specs.Prelude.{◌≡◌, [], ◌∷◌}
use Rattle.grasp_model_network.specs.Events.{Occurs}
use Rattle.grasp_model_network.specs.Runs.{IsReached}
use Rattle.grasp_model_network.specs.Setting.{Setting}
use Rattle.grasp_model_network.specs.Visits.{Choice}
use Rattle.grasp_model_network.specs.World.{DiscoveryAnswer, WorldState}
use Rattle.grasp_model_network.specs.declared.event.Event.{Event}
use Rattle.grasp_laws_network.specs.Noted.{AnswersDiscovery}

-- the response has the session number and the initiator of the discovery that was delivered, and tells the locator of its node and no other
pub record IsAnsweredOwn (s : Setting) (w : WorldState) (e : Event) (c : Choice) (a : DiscoveryAnswer) (t : AnswersDiscovery s w e c a) : Type 0 where
  pub number : t.number ≡ t.session
  pub initiator : t.from ≡ t.initiator
  pub locators : t.locators ≡ t.visit.seat.core.plan.locator ∷ []

-- a discovery that an event answers in a network that turns lead to is answered so
abbrev pub NotedAnswersAreOwn : Type 0
NotedAnswersAreOwn = (s : Setting) (w : WorldState) (e : Event) (c : Choice) → IsReached s w → Occurs s w e c → (a : DiscoveryAnswer) (t : AnswersDiscovery s w e c a) → IsAnsweredOwn s w e c a t
