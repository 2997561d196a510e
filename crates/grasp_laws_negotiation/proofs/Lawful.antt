-- What is so of each talk is so of each negotiation of a network.
use Rattle.std.proofs.Common.{◌≡◌, Bool, true, false, cond, List, [], ◌∷◌, Option, Some, None, refl, sym, ap, ◌∙◌, subst}
use Rattle.std.proofs.lemmas.Option.{none-some, same_Some}
use Rattle.std.proofs.lemmas.List.Elements.{All-nil, All-cons}
use Rattle.std.specs.List.{All}
use Rattle.grasp_types.specs.declared.session.Outcome.TheVariants as outcome
use Rattle.grasp_laws_session.proofs.Ends.{legal, bounded, views, offers, agree}
use Rattle.grasp_laws_session.proofs.Outcomes.{outcomes_say, accepts}
use Rattle.grasp_laws_session.proofs.Peers.{peer_is_present}
use Rattle.grasp_laws_session.proofs.Turns.{turns_say}
use Rattle.grasp_session.specs.Conversation.{Said, IsLegalConversation, strip, requested, spoken, turn}
use Rattle.grasp_session.specs.Laws.{IsBounded, Agreement, IsView, OfferStands, OutcomeSays, Accepting}
use Rattle.grasp_session.specs.Messages.{Side, Near, Far, other}
use Rattle.grasp_session.specs.Sessions.{SessionState}
use Rattle.grasp_session.specs.Talk.{Absent, Refused, Present, Talk, party, run}
use Rattle.grasp_session.specs.Transcript.{Transcript, outcome_of}
use Rattle.grasp_laws_session.specs.Turns.{TurnSays}
use Rattle.grasp_laws_network.proofs.Going.{reached_more}
use Rattle.grasp_model_network.proofs.Facts.{first_reached}
use Rattle.grasp_model_network.specs.Events.{after_event}
use Rattle.grasp_model_network.specs.Runs.{Happening, IsRun, IsReached, worlds_from, first_world}
use Rattle.grasp_model_network.specs.Setting.{Setting}
use Rattle.grasp_model_network.specs.Streams.{StreamState, end_at}
use Rattle.grasp_laws_network.specs.Views.{has_ended, stage_by, view_in, view_at, session_of_end}
use Rattle.grasp_model_network.specs.World.{WorldState}
use Rattle.grasp_laws_negotiation.proofs.Turning.{run_said, run_known}
use Rattle.grasp_laws_negotiation.specs.GoingOn.{GoesOn, NegotiationsGoOn, SaysNothing, TurnStays, TurnsStay}
use Rattle.grasp_laws_negotiation.specs.Knowing.{Saw, IsKnown, NegotiationsAreKnown}
use Rattle.grasp_laws_negotiation.specs.Negotiations.{IsTalk, NegotiationsAreTalks, NegotiationsAreInOrder}
use Rattle.grasp_laws_negotiation.specs.Safe.{outcome_in, SidesAgree, HasBoundedSteps, IsSafeTalk, IsSafeTalks, TalksAreSafe}

-- ---- what a side saw, and how it stands

view_present : (t : StreamState) (side : Side) (o : Option SessionState) (v : Transcript) → view_in o ≡ Some v → stage_by t side o ≡ Present v
view_present t side None v e = absurd (none-some v e)
view_present t side (Some x) v e = ap Present (same_Some x.view v e)

present_view : (t : StreamState) (side : Side) (o : Option SessionState) (v : Transcript) → stage_by t side o ≡ Present v → view_in o ≡ Some v
present_view t side None v e = absurd (by_test (has_ended side t.said) e) where
  by_test : (b : Bool) → cond b Refused Absent ≡ Present v → ⊥
  by_test true f = cc
  by_test false f = cc
present_view t side (Some x) v e = ap (λ y. Some y) (views_same x.view v e) where
  views_same : (a b : Transcript) → Present a ≡ Present b → a ≡ b
  views_same a b f = cc

pub saw_stage : (w : WorldState) (t : StreamState) (k : IsTalk w t) (side : Side) (v : Transcript) → Saw w t side v → (party k.talk side).stage ≡ Present v
saw_stage w t k side v e = k.stages side ∙ view_present t side (session_of_end w (end_at t side)) v e

-- ---- each negotiation

pub in_order_of : (w : WorldState) (t : StreamState) → IsTalk w t → IsLegalConversation t.said
in_order_of w t k = subst IsLegalConversation k.said (legal k.talk k.reached)

bounded_of : (w : WorldState) (t : StreamState) → IsTalk w t → HasBoundedSteps t
bounded_of w t k = subst (λ (c : List Said). IsBounded (requested (strip c)).loops (strip c)) k.said (bounded k.talk k.reached)

agree_of : (w : WorldState) (t : StreamState) → IsTalk w t → SidesAgree w t
agree_of w t k a b o p near far = by_views (view_at w t Near) (view_at w t Far) refl refl near far where
  by_views : (x y : Option Transcript) → view_at w t Near ≡ x → view_at w t Far ≡ y → outcome_in x ≡ Some (outcome.Agreed a o) → outcome_in y ≡ Some (outcome.Agreed b p) → Agreement a b o p t.said
  by_views None y e f m n = absurd (none-some (outcome.Agreed a o) m)
  by_views (Some v) None e f m n = absurd (none-some (outcome.Agreed b p) n)
  by_views (Some v) (Some u) e f m n =
      subst (λ (c : List Said). Agreement a b o p c) k.said (agree k.talk k.reached v u a b o p (saw_stage w t k Near v e) (saw_stage w t k Far u f) m n)

safe_of : (w : WorldState) (t : StreamState) → IsTalk w t → IsSafeTalk w t
safe_of w t k = record { bounded = bounded_of w t k; agree = agree_of w t k }

known_of : (w : WorldState) (t : StreamState) → IsTalk w t → IsKnown w t
known_of w t k = record {
  views = λ side v e. subst (λ (c : List Said). IsView side c v) k.said (views k.talk k.reached side v (saw_stage w t k side v e));
  turns = λ side v e going mine. subst (λ (c : List Said). TurnSays side c v) k.said (turns_say k.talk k.reached side v (saw_stage w t k side v e) going mine);
  offers = λ side v e. subst (λ (c : List Said). OfferStands side c v) k.said (offers k.talk k.reached side v (saw_stage w t k side v e));
  outcomes = λ side v e. subst (λ (c : List Said). OutcomeSays side c v (outcome_of v)) k.said (outcomes_say k.talk k.reached side v (saw_stage w t k side v e));
  accepts = λ side v u e f may. subst (λ (c : List Said). Accepting side c v u) k.said
      (accepts k.talk k.reached side v u (saw_stage w t k side v e) (saw_stage w t k (other side) u f) may);
  peer = λ side v e may. let p = peer_is_present k.talk k.reached side v (saw_stage w t k side v e) may in
      (p.0, present_view t (other side) (session_of_end w (end_at t (other side))) p.0 (sym (k.stages (other side)) ∙ p.1));
}

-- ---- each network

pub all_in_order : NegotiationsAreTalks → NegotiationsAreInOrder
all_in_order talks s w r place t at is = in_order_of w t (talks s w r place t at is)

pub all_known : NegotiationsAreTalks → NegotiationsAreKnown
all_known talks s w r place t at is = known_of w t (talks s w r place t at is)

all_safe : NegotiationsAreTalks → (s : Setting) (w : WorldState) → IsReached s w → IsSafeTalks w
all_safe talks s w r place t at is = safe_of w t (talks s w r place t at is)

-- each network of a run
worlds_so : (s : Setting) (P : WorldState → Type 0) → ((w : WorldState) → IsReached s w → P w) → (hs : List Happening) (w : WorldState) → IsReached s w → IsRun s w hs → All P (worlds_from s w hs)
unfolding IsRun worlds_from
worlds_so s P each [] w r run = All-cons P w [] (each w r) (All-nil P)
worlds_so s P each (h ∷ hs) w r run =
    let x = after_event s w h.event h.choice in
    All-cons P w (worlds_from s x hs) (each w r) (worlds_so s P each hs x (reached_more s w h.event h.choice r run.0) run.1)

pub talks_safe : NegotiationsAreTalks → TalksAreSafe
talks_safe talks = record {
  reached = all_safe talks;
  run = λ s hs good run. worlds_so s IsSafeTalks (all_safe talks s) hs (first_world s) (first_reached s good) run;
}

-- ---- each event

turns_of : (w y : WorldState) (t u : StreamState) → GoesOn w y t u → TurnStays w y t u
turns_of w y t u g = record {
  said = λ side here quiet.
      sym (ap strip g.after.said) ∙ (ap (λ (x : Talk). strip x.said) g.ran
      ∙ (run_said g.moves g.before.talk side g.before.reached (ap (λ c. turn (strip c)) g.before.said ∙ here) (quietly side quiet) ∙ ap strip g.before.said));
  known_still = λ side v x saw then mine quiet.
      run_known g.moves g.before.talk side v x g.before.reached (saw_stage w t g.before side v saw) (ap (λ (z : Talk). (party z side).stage) (sym g.ran) ∙ saw_stage y u g.after side x then) mine (quietly side quiet);
} where
  quietly : (side : Side) → SaysNothing t u side → spoken side (run g.before.talk g.moves).said ≡ spoken side g.before.talk.said
  quietly side quiet =
      ap (λ (x : Talk). spoken side x.said) (sym g.ran) ∙ (ap (λ c. spoken side c) g.after.said ∙ (quiet ∙ sym (ap (λ c. spoken side c) g.before.said)))

pub all_turns : NegotiationsGoOn → TurnsStay
all_turns goes s w e c r o place t u was there negotiation = turns_of w (after_event s w e c) t u (goes s w e c r o place t u was there negotiation)
