-- A life that has ended stays as it is: each step is made by a present life, and so is whatever else a turn changes.
use Rattle.std.proofs.Common.{◌≡◌, ◌≢◌, refl, ap, ◌∙◌, ℕ, false, length, Option, Some, None}
use Rattle.std.proofs.lemmas.Bool.{both_ways}
use Rattle.grasp_laws_node.specs.Consistent.{TiesAreKept}
use Rattle.grasp_laws_network.proofs.Here.{numbered_within}
use Rattle.grasp_laws_network.proofs.Lives.{ended_apart}
use Rattle.grasp_laws_network.proofs.LivesKept.{lives_are_kept, dead_member}
use Rattle.grasp_laws_network.proofs.Others.{others_stay}
use Rattle.grasp_laws_network.proofs.Restarted.{restarting_is}
use Rattle.grasp_laws_network.proofs.Returned.{returns_change_returns}
use Rattle.grasp_laws_network.proofs.Settled.{settling_is}
use Rattle.grasp_laws_network.proofs.Staying.{wants_change_wants}
use Rattle.grasp_model_network.specs.Events.{IsFit, visit_of, after_none, after_by, after_event}
use Rattle.grasp_model_network.specs.Plans.{IsNode}
use Rattle.grasp_model_network.specs.Runs.{IsReached}
use Rattle.grasp_model_network.specs.Setting.{Setting}
use Rattle.grasp_model_network.specs.Visits.{Visit, Choice}
use Rattle.grasp_model_network.specs.World.{WorldState, present_life, is_present, seat_at}
use Rattle.grasp_model_network.specs.declared.event.Event.{Event}
use Rattle.grasp_model_network.specs.declared.event.Event.TheVariants as event
use Rattle.grasp_model_network.specs.declared.turn.Turn.TheVariants as turn
use Rattle.grasp_laws_delivery.specs.Ready.{EndedLivesStay}
use Rattle.grasp_laws_delivery.proofs.Present.{steps_are_present}

module _ (s : Setting) (w : WorldState) (life : ℕ) (r : IsReached s w) (gone : is_present w life ≡ false) where
  -- it is no member's present life
  apart : (node : ℕ) → IsNode (length s.members) node → life ≢ present_life w node
  apart node member = ended_apart w node life ((lives_are_kept s w r).own node member) gone

  -- an event without a step changes an agent in a member's present life
  none_ended : (e : Event) (c : Choice) → IsFit s w e → seat_at (after_none s w e) life ≡ seat_at w life
  unfolding after_event
  none_ended (event.Want node short longest peer) c fit = (wants_change_wants s w node short longest peer c).others life (apart node fit.0)
  none_ended (event.Return node p peer) c fit = (returns_change_returns s w node peer p c).others life (apart node fit.0)
  none_ended _ c fit = refl

  -- and any other one makes its step in a present life
  event_ended : TiesAreKept → (e : Event) (c : Choice) → IsFit s w e → seat_at (after_event s w e c) life ≡ seat_at w life
  unfolding after_event
  event_ended ties e c fit = by_visit (visit_of s w e) refl where
    by_visit : (o : Option Visit) → visit_of s w e ≡ o → seat_at (after_event s w e c) life ≡ seat_at w life
    by_visit None is = ap (λ o. seat_at (after_by s w e c o) life) is ∙ none_ended e c fit
    by_visit (Some v) is =
        others_stay s w e c v life is (λ same. both_ways (is_present w life) gone (ap (is_present w) same ∙ steps_are_present ties s w e v r fit is))

pub ended_lives_stay : TiesAreKept → EndedLivesStay
ended_lives_stay ties s w (turn.Event e) c life seat r t here gone = event_ended s w life r gone ties e c t.fit ∙ here
ended_lives_stay ties s w (turn.Settle node p) c life seat r t here gone = (settling_is w node p t).others life (apart s w life r gone node (dead_member s w node p r t)) ∙ here
ended_lives_stay ties s w (turn.Restart node image) c life seat r t here gone =
    (restarting_is s w node image t).stays life seat (apart s w life r gone node (numbered_within s.members node t.member t.found)) here
