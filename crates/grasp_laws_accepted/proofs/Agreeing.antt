-- Where the taking side has accepted what is listed for a stream and in doubt, it came to an agreement by which that prefix is offered.
use Rattle.std.proofs.Common.{◌≡◌, inl, inr, sym, ap, ◌∙◌, subst, ℕ, true, Some, slice_get}
use Rattle.std.proofs.lemmas.Option.{same_Some}
use Rattle.grasp_laws_agents.proofs.Sides.{sides}
use Rattle.grasp_laws_agents.specs.Giving.{offered_by}
use Rattle.grasp_laws_listed.specs.Doubts.{DoubtedWereOffered, IsDoubted, IsOver, WasOffered}
use Rattle.grasp_laws_negotiation.specs.Knowing.{IsKnown, Saw}
use Rattle.grasp_laws_negotiation.specs.Negotiations.{IsNegotiation}
use Rattle.grasp_laws_negotiation.specs.Streams.{HasItsStream}
use Rattle.grasp_laws_network.specs.Views.{view_at, view_in}
use Rattle.grasp_laws_prefixes.proofs.Places.{same_place}
use Rattle.grasp_laws_prefixes.proofs.Speech.{same_requested}
use Rattle.grasp_laws_prefixes.specs.Grounds.{Grounds}
use Rattle.grasp_laws_accepted.specs.Agreeing.{AcceptedDoubtsAgree, Offers}
use Rattle.grasp_laws_questions.proofs.Agreeing.{acceptances_agree, listed_are_asked}
use Rattle.grasp_laws_session.proofs.Follows.{other_other}
use Rattle.grasp_model_network.specs.Accepting.{has_accepted, is_return, offering_by, offering_side, taking_side}
use Rattle.grasp_model_network.specs.Runs.{IsReached}
use Rattle.grasp_model_network.specs.Setting.{Setting}
use Rattle.grasp_model_network.specs.Streams.{StreamState}
use Rattle.grasp_model_network.specs.World.{Offered, Seat, WorldState, end_of}
use Rattle.grasp_session.specs.Conversation.{newest_offer_by, strip}
use Rattle.grasp_session.specs.Laws.{IsView}
use Rattle.grasp_session.specs.Messages.{Side, other}
use Rattle.grasp_session.specs.Runs.{WasMade}
use Rattle.grasp_session.specs.Sessions.{SessionState, Sessions}
use Rattle.grasp_session.specs.Transcript.{Transcript, known, outcome_of}
use Rattle.grasp_types.specs.declared.objective.Objective.{Objective}
use Rattle.grasp_types.specs.declared.session.By.TheVariants.{Mine}
use Rattle.grasp_types.specs.declared.session.Outcome.TheVariants as outcome

was_made : (w : WorldState) (life : ℕ) (z : Sessions) (x : SessionState) → IsOver w life z x → WasMade z x
was_made w life z x (inl gone) = inr gone
was_made w life z x (inr at) = inl at.1

module _ (l : Grounds) (s : Setting) (w : WorldState) (r : IsReached s w) (seat : Seat) (o : Offered) (place : ℕ) (d : IsDoubted w seat o place) (t : StreamState) (stands : slice_get w.streams place ≡ Some t)
    (was : WasOffered w seat o place) where
  negotiation_is : IsNegotiation t
  negotiation_is = (listed_are_asked l s w r o place t d.listed d.on stands).negotiation

  made : WasMade seat.core.sessions was.session
  made = was_made w o.node seat.core.sessions was.session was.over

  stream_is : HasItsStream w o.node was.session
  stream_is = l.streams.each s w r o.node seat d.here was.session made

  -- what the giver saw of it
  saw : view_at w t was.session.view.role ≡ Some was.session.view
  saw =
      let k : HasItsStream w o.node was.session = stream_is in
      let at : k.place ≡ place =
      same_place l.ready s w r (end_of o.node was.session.stream) k.place place k.talk was.talk k.side was.session.view.role k.stands k.ends was.stands was.ends in
      let same : k.talk ≡ t = same_Some k.talk t (sym k.stands ∙ (ap (λ n. slice_get w.streams n) at ∙ stands)) in
      ap (λ (i : Side). view_at w t i) k.role ∙ (ap (λ (u : StreamState). view_at w u k.side) (sym same) ∙ ap view_in k.found)

  known_is : IsKnown w t
  known_is = l.known s w r place t stands negotiation_is

  view : IsView was.session.view.role t.said was.session.view
  view = known_is.views was.session.view.role was.session.view saw

  -- it is the side that offers
  offers : offering_side t ≡ was.session.view.role
  offers =
      ap (λ (q : Objective). offering_by (is_return q.value)) (sym (same_requested t.said) ∙ sym view.same_request)
      ∙ sides seat.core seat.agent (l.give s w r o.node seat d.here) was.session o.prefix made was.owner was.last

  -- and its last offer is the prefix
  last_offer : offered_by was.session.view.role (newest_offer_by was.session.view.role (strip t.said)).value ≡ Some o.prefix
  last_offer = ap (λ (q : Objective). offered_by was.session.view.role q.value) (sym (known_is.offers was.session.view.role was.session.view saw).offer) ∙ was.last.offer

  offered_there : offered_by (offering_side t) (newest_offer_by (other (taking_side t)) (strip t.said)).value ≡ Some o.prefix
  offered_there =
      ap (λ k. offered_by (offering_side t) (newest_offer_by k (strip t.said)).value) (other_other (offering_side t))
      ∙ subst (λ k. offered_by k (newest_offer_by k (strip t.said)).value ≡ Some o.prefix) (sym offers) last_offer

  agree : has_accepted (taking_side t) t.said ≡ true → (v : Transcript) → Saw w t (taking_side t) v → (q : Objective) × (outcome_of v ≡ Some (outcome.Agreed Mine q)) × Offers (offering_side t) q o
  agree accepts v taken = (newest_offer_by (other (taking_side t)) (strip t.said), acceptances_agree l s w r place t stands negotiation_is (taking_side t) v taken accepts, offered_there)

pub accepted_doubts_agree : Grounds → DoubtedWereOffered → AcceptedDoubtsAgree
accepted_doubts_agree l doubted s w r seat o place d t stands accepts v taken = agree l s w r seat o place d t stands (doubted s w r seat o place d) accepts v taken
