-- A discovery that is noted as answered was answered with its node's own locator.
use Rattle.std.proofs.Common.{◌≡◌, sym, ap, ◌∙◌, subst, arith, ℕ, [], ◌∷◌, Some}
use Rattle.std.specs.Prelude.{Contains}
use Rattle.std.proofs.lemmas.Option.{same_Some}
use Rattle.grasp_laws_delivery.specs.Divided.{DatagramsAreMessages}
use Rattle.grasp_laws_node.proofs.Remembered.{begun}
use Rattle.grasp_laws_network.specs.Keeping.{TakesNothing}
use Rattle.grasp_laws_network.specs.Noted.{AnswersDiscovery}
use Rattle.grasp_model_network.specs.Events.{Occurs, visit_of}
use Rattle.grasp_model_network.specs.Runs.{IsReached}
use Rattle.grasp_model_network.specs.Setting.{Setting}
use Rattle.grasp_model_network.specs.Visits.{Choice, MayCome, VisitStep}
use Rattle.grasp_model_network.specs.World.{DiscoveryAnswer, SentDatagram, WorldState}
use Rattle.grasp_model_network.specs.declared.event.Event.{Event}
use Rattle.grasp_model_node.specs.Begin.{begin}
use Rattle.grasp_model_node.specs.Node.{NodeState}
use Rattle.grasp_model_node.specs.Queue.{send}
use Rattle.grasp_model_node.specs.declared.plan.NodePlan.{NodePlan}
use Rattle.grasp_types.specs.declared.address.Address.{Address}
use Rattle.grasp_types.specs.declared.message.Answer.TheVariants.{Locators}
use Rattle.grasp_types.specs.declared.message.Message.{Message}
use Rattle.grasp_types.specs.declared.message.Message.TheVariants.{Discovery, Response}
use Rattle.grasp_types.specs.declared.objective.Objective.{Objective}
use Rattle.grasp_laws_discovery.proofs.Noting.{Brings, IsCarriedAs, brings_it}
use Rattle.grasp_laws_discovery.proofs.Sourcing.{responses_have_sources}
use Rattle.grasp_laws_discovery.specs.Own.{IsAnsweredOwn, NotedAnswersAreOwn}
use Rattle.grasp_laws_discovery.specs.Sources.{IsQueuedFrom, IsResponseFrom, added_by, carried_by, diverted, own, sent_on}

module _ (messages : DatagramsAreMessages) (s : Setting) (w : WorldState) (e : Event) (c : Choice) (r : IsReached s w) (occurs : Occurs s w e c) (a : DiscoveryAnswer) (t : AnswersDiscovery s w e c a) where
  abbrev node : NodeState
  node = begin t.visit.seat.core t.visit.now

  abbrev response : Message
  response = Response t.number t.from t.ttl (Locators t.locators) t.about

  step : VisitStep t.visit c
  step = subst (λ z. MayCome z c) t.visits occurs.comes

  brings : Brings w t.index t.visit c
  brings = brings_it messages s w r t.index t.hold t.visit c (subst (λ x. visit_of s w x ≡ Some t.visit) t.delivers t.visits) step

  -- what was carried is the discovery that was sent
  carried : (session : ℕ) (initiator : Address) (o : Objective) → carried_by t.visit.input c.coming ≡ Some (Discovery session initiator o)
      → Discovery t.session t.initiator a.objective ≡ Discovery session initiator o
  carried session initiator o is =
      ap (λ (x : SentDatagram). x.message) (same_Some _ brings.sent (sym t.discovery ∙ brings.found))
      ∙ subst (IsCarriedAs brings.sent.message) (subst (λ i. carried_by i c.coming ≡ Some (Discovery session initiator o)) brings.input_is is) brings.carried

  by_source : IsResponseFrom node t.visit.input c.coming response → IsAnsweredOwn s w e c a t
  by_source (own session initiator o is serving same) =
      let k = carried session initiator o is in
      let told : t.locators ≡ node.plan.locator ∷ [] = cc in
      record {
        number = (let z : t.number ≡ t.session = cc in z);
        initiator = (let z : t.from ≡ t.initiator = cc in z);
        locators = told ∙ ap (λ (p : NodePlan). p.locator ∷ []) (begun t.visit.seat.core t.visit.now).plan;
      }
  by_source (diverted session initiator o known is cached same) = absurd (cc)
  by_source (sent_on has) = let none = subst (λ i. Contains (added_by i c.coming) response) brings.input_is has in absurd (omega (arith, none.1))

  answered_own : IsAnsweredOwn s w e c a t
  answered_own =
      by_source (subst (IsQueuedFrom node t.visit.input c.coming) t.response.2
      (responses_have_sources t.visit c (subst TakesNothing (sym brings.input_is) tt) step t.response.0 (send t.stream response) t.response.1))

pub noted_answers_are_own : DatagramsAreMessages → NotedAnswersAreOwn
noted_answers_are_own messages s w e c r occurs a t = answered_own messages s w e c r occurs a t
