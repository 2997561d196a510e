-- What the node to which a prefix was offered has answered stays so, whatever comes.
use Rattle.std.proofs.Common.{◌≡◌, ◌⊎◌, inl, refl, sym, ap, ◌∙◌, subst, Bool, true, false, List, [], ◌∷◌, ◌++◌, None, Some}
use Rattle.std.proofs.lemmas.Bool.{true≢false}
use Rattle.std.proofs.lemmas.Option.{none-some}
use Rattle.grasp_doubter.specs.Questions.{question_value}
use Rattle.grasp_session.specs.Conversation.{Said, begun, requested, strip}
use Rattle.grasp_session.specs.Messages.{Far}
use Rattle.grasp_types.specs.Prefix.{AddressBlock as Prefix}
use Rattle.grasp_types.specs.declared.address.Address.{Address}
use Rattle.grasp_types.specs.declared.objective.Objective.{Objective}
use Rattle.grasp_model_doubts.specs.Answered.{IsQuestion, WasAnswered, question}
use Rattle.grasp_model_node.specs.declared.plan.NodePlan.{NodePlan}
use Rattle.grasp_model_network.specs.Accepting.{has_accepted}
use Rattle.grasp_model_network.specs.Runs.{IsReached}
use Rattle.grasp_model_network.specs.Setting.{Setting}
use Rattle.grasp_model_network.specs.Streams.{StreamEnd, StreamState}
use Rattle.grasp_model_network.specs.World.{Offered, Seat, WorldState, seat_at}
use Rattle.grasp_laws_negotiation.specs.Negotiations.{IsNegotiation}
use Rattle.grasp_laws_prefixes.proofs.Asked.{asked_still, request_stays}
use Rattle.grasp_laws_prefixes.proofs.Speech.{accepted_before, same_requested}
use Rattle.grasp_laws_prefixes.proofs.Standing.{AllStay, Stays}
use Rattle.grasp_laws_doubts.proofs.Opening.{PlansLast, near_stays}
use Rattle.grasp_laws_doubts.specs.Grounds.{Grounds}

-- where a question was requested, something was said
begun_by : (a : Address) (p : Prefix) (c : List Said) → requested c ≡ question a p → begun c ≡ true
begun_by a p [] e = absurd (none-some (question_value a p) (ap (λ (o : Objective). o.value) e))
begun_by a p (x ∷ c) e = refl

module _ (l : Grounds) (s : Setting) (w y : WorldState) (r : IsReached s w) (q : IsReached s y) (stay : AllStay w.streams y.streams) (plans : PlansLast w y) (o : Offered) (a : WasAnswered w o) where
  -- the streams of the offer and of the question, then
  abbrev t : Stays y.streams a.place a.talk
  t = stay a.place a.talk a.stands

  abbrev u : Stays y.streams a.question_place a.asking
  u = stay a.question_place a.asking a.asked

  near : t.after.near ≡ a.talk.near
  near = near_stays y.streams a.place a.talk t

  -- who dialled that of the offer
  requester : (new : Seat) × (seat_at y a.talk.near.node ≡ Some new) × (new.core.plan ≡ a.requester.core.plan)
  requester = plans a.talk.near.node a.requester a.dialled

  begins : begun (strip a.asking.said) ≡ true
  begins = begun_by a.requester.core.plan.address o.prefix (strip a.asking.said) (same_requested a.asking.said ∙ a.is.asks)

  still : IsNegotiation u.after
  still = (asked_still l.prefixes s w r a.question_place a.asking a.asked a.is.opens begins y.streams u).0

  asks : requested u.after.said ≡ question a.requester.core.plan.address o.prefix
  asks = request_stays l.prefixes s w r a.question_place a.asking a.asked a.is.opens begins y (inl q) u ∙ a.is.asks

  accepted : has_accepted Far u.after.said ≡ true
  accepted = by_test (has_accepted Far u.after.said) refl where
    by_test : (b : Bool) → has_accepted Far u.after.said ≡ b → b ≡ true
    by_test true e = refl
    by_test false e = absurd (true≢false (sym a.accepted ∙ accepted_before Far u.newer a.asking.said (ap (has_accepted Far) (sym u.said) ∙ e)))

  pub answered_on : WasAnswered y o
  answered_on = record {
    place = a.place;
    talk = t.after;
    on = a.on;
    stands = t.stands;
    requester = requester.0;
    dialled = ap (λ (e : StreamEnd). seat_at y e.node) near ∙ requester.1;
    question_place = a.question_place;
    asking = u.after;
    asked = u.stands;
    later = a.later;
    asker = ap (λ (e : StreamEnd). e.node) (near_stays y.streams a.question_place a.asking u) ∙ a.asker;
    is = subst (λ x. IsQuestion x o.prefix u.after) (ap (λ (p : NodePlan). p.address) (sym requester.2)) (record { opens = still; asks = asks });
    far = a.far;
    opened = u.ends Far a.far a.opened;
    answerer = a.answerer ∙ ap (λ (e : StreamEnd). e.node) (sym near);
    accepted = accepted;
  }
