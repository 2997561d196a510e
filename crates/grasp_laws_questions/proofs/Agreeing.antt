-- A side of a negotiation that has accepted came to an agreement by its own acceptance, on the last offer of the other side.
use Rattle.std.proofs.Common.{◌≡◌, ◌≢◌, ◌⊎◌, inl, inr, refl, sym, ap, ◌∙◌, subst, ℕ, Bool, true, false, cond, List, [], ◌∷◌, reverse, Option, None, Some, slice_get}
use Rattle.std.proofs.lemmas.Bool.{and_parts, false≢true, true≢false}
use Rattle.std.proofs.lemmas.Option.{none-some, same_Some}
use Rattle.grasp_laws_negotiation.specs.Knowing.{IsKnown, Saw}
use Rattle.grasp_laws_negotiation.specs.Negotiations.{IsNegotiation, IsTalk}
use Rattle.grasp_laws_network.specs.Views.{has_ended, session_of_end, stage_by, view_in}
use Rattle.grasp_laws_prefixes.proofs.Safe.{stand}
use Rattle.grasp_laws_prefixes.proofs.Speech.{never_accepted}
use Rattle.grasp_laws_prefixes.proofs.Standing.{IsPlaced}
use Rattle.grasp_laws_prefixes.specs.Grounds.{Grounds}
use Rattle.grasp_laws_questions.specs.Agreeing.{AcceptancesAgree, IsAsked, ListedAreAsked, RequestersSaw}
use Rattle.grasp_laws_session.proofs.Agreeing.{one_speaker}
use Rattle.grasp_laws_session.proofs.Offers.{accepted_ended}
use Rattle.grasp_laws_session.proofs.Views.{is_side-other}
use Rattle.grasp_model_network.specs.Accepting.{has_accepted}
use Rattle.grasp_model_network.specs.Runs.{IsReached}
use Rattle.grasp_model_network.specs.Setting.{Setting}
use Rattle.grasp_model_network.specs.Streams.{StreamState, end_at}
use Rattle.grasp_model_network.specs.World.{WorldState}
use Rattle.grasp_session.specs.Conversation.{IsLegal, IsLegalConversation, MayFollow, Said, Trails, accepted_by, begun, ended, newest_offer_by, says, spoken, strip}
use Rattle.grasp_session.specs.Laws.{IsOpened, IsSilent, IsView, OutcomeSays}
use Rattle.grasp_session.specs.Messages.{Near, Far, Side, is_acceptance, is_invalid, is_side, other}
use Rattle.grasp_session.specs.Sessions.{SessionState}
use Rattle.grasp_session.specs.Talk.{Stage, Absent, Refused, party}
use Rattle.grasp_session.specs.Transcript.{Transcript, known, outcome_of}
use Rattle.grasp_types.specs.declared.message.Message.{Message}
use Rattle.grasp_types.specs.declared.message.Message.TheVariants.{ReqNeg, Negotiate, Wait, End}
use Rattle.grasp_types.specs.declared.objective.Objective.{Objective}
use Rattle.grasp_types.specs.declared.session.By.{By}
use Rattle.grasp_types.specs.declared.session.By.TheVariants.{Mine, Theirs}
use Rattle.grasp_types.specs.declared.session.Outcome.{Outcome}
use Rattle.grasp_types.specs.declared.session.Outcome.TheVariants as outcome

-- ---- an acceptance

not_other : (side : Side) → other side ≢ side
not_other Near e = cc
not_other Far e = cc

-- an acceptance of a side is the newest message, and so that side knows it all
newest_seen : (side : Side) (k c : List Said) → Trails side k c → accepted_by side c ≡ true → k ≡ c
newest_seen side k [] t e = absurd (false≢true e)
newest_seen side k (x ∷ c) (inl same) e = same
newest_seen side k (x ∷ c) (inr t) e = absurd (false≢true (sym (is_side-other side x.side t.0) ∙ (and_parts (is_side side x.side) (is_acceptance x.message) e).0))

module _ (side : Side) (said : List Said) (v : Transcript) (legal : IsLegalConversation said) (view : IsView side said v) (accepts : has_accepted side said ≡ true) where
  accepted : accepted_by side (strip said) ≡ true
  accepted = by_test (accepted_by side (strip said)) refl where
    by_test : (b : Bool) → accepted_by side (strip said) ≡ b → b ≡ true
    by_test true is = refl
    by_test false is = absurd (true≢false (sym accepts ∙ never_accepted side said legal is))

  seen : known v ≡ strip said
  seen = newest_seen side (known v) (strip said) view.trails accepted

  not_ended : {A : Type 0} → ended (known v) ≡ false → A
  not_ended e = absurd (true≢false (sym (accepted_ended side (strip said) accepted) ∙ (ap ended (sym seen) ∙ e)))

  agreed : (by : By) (o : Objective) → OutcomeSays side said v (Some (outcome.Agreed by o)) → Some (outcome.Agreed by o) ≡ Some (outcome.Agreed Mine (newest_offer_by (other side) (strip said)))
  agreed Mine o s = ap (λ (p : Objective). Some (outcome.Agreed Mine p)) s.2
  agreed Theirs o s = absurd (not_other side (one_speaker (other side) side (strip said) s.1 accepted))

  came_to : (o : Option Outcome) → OutcomeSays side said v o → o ≡ Some (outcome.Agreed Mine (newest_offer_by (other side) (strip said)))
  came_to None s = not_ended s.1
  came_to (Some (outcome.Agreed by o)) s = agreed by o s
  came_to (Some (outcome.Declined by reason)) s = absurd (true≢false (sym accepted ∙ s.3 side))
  came_to (Some (outcome.Synchronized o)) s = absurd s
  came_to (Some (outcome.TimedOut d now)) s = not_ended s
  came_to (Some outcome.Broken) s = not_ended s
  came_to (Some outcome.OutOfMemory) s = not_ended s
  came_to (Some (outcome.Invalid by)) s = not_ended s

pub acceptances_agree : Grounds → AcceptancesAgree
acceptances_agree l s w r place t stands negotiation side v saw accepts =
    let k : IsKnown w t = l.known s w r place t stands negotiation in
    came_to side t.said v (l.in_order s w r place t stands negotiation) (k.views side v saw) accepts (outcome_of v) (k.outcomes side v saw)

-- ---- who dialled has a session

-- where a side said nothing, it said nothing but for invalid messages
none_stripped : (side : Side) (c : List Said) → spoken side c ≡ [] → spoken side (strip c) ≡ []
none_stripped side [] e = refl
none_stripped side (x ∷ c) e = by_side (is_side side x.side) refl e (none_stripped side c) where
  by_invalid : (b : Bool) → is_side side x.side ≡ false → spoken side (strip c) ≡ [] → spoken side (cond b (strip c) (x ∷ strip c)) ≡ []
  by_invalid true is none = none
  by_invalid false is none = ap (λ b. cond b (x.message ∷ spoken side (strip c)) (spoken side (strip c))) is ∙ none

  by_side : (b : Bool) → is_side side x.side ≡ b → cond b (x.message ∷ spoken side c) (spoken side c) ≡ [] → (spoken side c ≡ [] → spoken side (strip c) ≡ []) → spoken side (strip (x ∷ c)) ≡ []
  by_side true is f rest = absurd (cc)
  by_side false is f rest = by_invalid (is_invalid x.message) is (rest f)

-- what begins does so by the side that dialled
begins_near : (side : Side) (m : Message) → MayFollow [] (says side m) → side ≡ Near
begins_near side (ReqNeg n o) f = f.1
begins_near side (Negotiate n o) f = absurd (false≢true f.0.has_begun)
begins_near side (Wait n k) f = absurd (false≢true f.0.has_begun)
begins_near side (End n d) f = absurd (false≢true f.has_begun)
begins_near side _ f = absurd f

near_said : (c : List Said) → IsLegal c → begun c ≡ true → spoken Near c ≢ []
near_said [] l e f = false≢true e
near_said (x ∷ []) l e f =
    let near : x.side ≡ Near = begins_near x.side x.message l.0 in
    let one : x.message ∷ [] ≡ [] = subst (λ k. cond (is_side Near k) (x.message ∷ []) [] ≡ []) near f in
    absurd (cc)
near_said (x ∷ y ∷ c) l e f = by_side (is_side Near x.side) f (near_said (y ∷ c) l.1 refl) where
  by_side : (b : Bool) → cond b (x.message ∷ spoken Near (y ∷ c)) (spoken Near (y ∷ c)) ≡ [] → spoken Near (y ∷ c) ≢ [] → ⊥
  by_side true g rest = cc
  by_side false g rest = rest g

-- a request comes first, and so a decline doesn't
no_decline : (m : Message) (n : ℕ) → (told : List Message) → IsOpened told → told ≡ m ∷ [] → ((session : ℕ) (o : Objective) → m ≢ ReqNeg session o) → ⊥
no_decline m n told (inl e) f none = let clash : [] ≡ m ∷ [] = sym e ∙ f in cc
no_decline m n told (inr o) f none = none o.0 o.1 (heads m (ReqNeg o.0 o.1) [] o.2 (sym f ∙ o.3)) where
  heads : (a b : Message) (x y : List Message) → a ∷ x ≡ b ∷ y → a ≡ b
  heads a b x y e = cc

module _ (l : Grounds) (s : Setting) (w : WorldState) (r : IsReached s w) (place : ℕ) (t : StreamState) (stands : slice_get w.streams place ≡ Some t) (negotiation : IsNegotiation t)
    (asked : begun (strip t.said) ≡ true) where
  by_ended : (b : Bool) → IsSilent Near t.said (cond b Stage.Refused Stage.Absent) → ⊥
  by_ended true h = no_decline (End h.0 _) 0 (reverse (spoken Near t.said)) negotiation (ap reverse h.2) (λ session o e. cc)
  by_ended false h = near_said (strip t.said) (l.in_order s w r place t stands negotiation).legal asked (none_stripped Near t.said h)

  by_session : (o : Option SessionState) → session_of_end w (end_at t Near) ≡ o → IsSilent Near t.said (stage_by t Near o) → (v : Transcript) × Saw w t Near v
  by_session (Some x) e h = (x.view, ap view_in e)
  by_session None e h = absurd (by_ended (has_ended Near t.said) h)

  requester_saw : (v : Transcript) × Saw w t Near v
  requester_saw = from (l.negotiations s w r place t stands negotiation) where
    from : IsTalk w t → (v : Transcript) × Saw w t Near v
    from k =
        by_session (session_of_end w (end_at t Near)) refl
        (subst (λ g. IsSilent Near t.said g) (k.stages Near) (subst (λ (c : List Said). IsSilent Near c (party k.talk Near).stage) k.said (l.unseen k.talk k.reached Near)))

pub requesters_saw : Grounds → RequestersSaw
requesters_saw l s w r place t stands negotiation asked = requester_saw l s w r place t stands negotiation asked

-- ---- what is listed

pub listed_are_asked : Grounds → ListedAreAsked
listed_are_asked l s w r o place t listed on stands = by_placed ((stand l s w r).known.placed o listed) where
  by_placed : IsPlaced w.streams o ⊎ (o.talk ≡ None) → IsAsked t
  by_placed (inr none) = absurd (none-some place (sym none ∙ on))
  by_placed (inl p) =
      let same_place_is : p.place ≡ place = same_Some p.place place (sym p.is ∙ on) in
      let same : p.talk ≡ t = same_Some p.talk t (sym p.stands ∙ (ap (λ k. slice_get w.streams k) same_place_is ∙ stands)) in
      subst IsAsked same (record { negotiation = p.negotiation; asked = p.asked; name = p.name })
