-- Two ends that agree.
use Rattle.std.proofs.Common.{◌≡◌, ℕ, Bool, true, false, cond, List, [], ◌∷◌, ◌⊎◌, inl, inr, Option, Some, None, refl, sym, ap, ◌∙◌, subst}
use Rattle.std.proofs.lemmas.Bool.{false≢true, and_parts}
use Rattle.grasp_session.specs.Messages.{Side, Near, Far, other, is_side, is_invalid, is_acceptance}
use Rattle.grasp_types.specs.declared.objective.Objective.{Objective}
use Rattle.grasp_types.specs.declared.message.Verdict.TheVariants.{Accept}
use Rattle.grasp_types.specs.declared.message.Message.{Message}
use Rattle.grasp_types.specs.declared.message.Message.TheVariants.{End}
use Rattle.grasp_session.specs.Conversation.{Said, says, strip, ended, accepted_by, newest_offer_by, IsLegal}
use Rattle.grasp_session.specs.Transcript.{Entry, Transcript, Mark, Expired, side_of, said_of, known, outcome_of, mark_outcome, entries_outcome, message_outcome, by_of}
use Rattle.grasp_types.specs.declared.session.Outcome.TheVariants as outcome
use Rattle.grasp_types.specs.declared.session.By.{By}
use Rattle.grasp_types.specs.declared.session.By.TheVariants.{Mine, Theirs}
use Rattle.grasp_session.specs.Laws.{speaker, Agreement}
use Rattle.grasp_laws_session.proofs.Views.{same_side, is_side-true}
use Rattle.grasp_laws_session.proofs.Offers.{accepted_made}

-- an agreement that an end reports: the newest is an acceptance
pub record Reported (v : Transcript) (c : List Said) (by : By) (o : Objective) : Type 0 where
  pub over : ended c ≡ true
  pub accepted : accepted_by (speaker v.role by) c ≡ true
  pub objective : o ≡ newest_offer_by (other (speaker v.role by)) (known v)

by_mark : (v : Transcript) (mark : Option Mark) (by : By) (o : Objective) → mark_outcome v mark ≡ Some (outcome.Agreed by o) → entries_outcome v v.entries ≡ Some (outcome.Agreed by o)
by_mark v None by o e = e
by_mark v (Some (Expired now)) by o e = absurd (cc)
by_mark v (Some _) by o e = absurd (cc)

by_parts : (v : Transcript) (c : List Said) (n : ℕ) (sent : Bool) (by : By) (o : Objective) → outcome.Agreed (by_of sent) (newest_offer_by (other (side_of v.role sent)) (known v)) ≡ outcome.Agreed by o
    → Reported v (says (side_of v.role sent) (End n Accept) ∷ c) by o
by_parts v c n true Mine o e = record { over = refl; accepted = rw (same_side v.role) refl; objective = cc }
by_parts v c n true Theirs o e = absurd (cc)
by_parts v c n false Mine o e = absurd (cc)
by_parts v c n false Theirs o e = record { over = refl; accepted = rw (same_side (other v.role)) refl; objective = cc }

by_message : (v : Transcript) (c : List Said) (sent : Bool) (m : Message) (by : By) (o : Objective) → message_outcome v sent m ≡ Some (outcome.Agreed by o)
    → Reported v (cond (is_invalid m) c (says (side_of v.role sent) m ∷ c)) by o
by_message v c sent (End n Accept) by o e = let same : outcome.Agreed (by_of sent) (newest_offer_by (other (side_of v.role sent)) (known v)) ≡ outcome.Agreed by o = cc in by_parts v c n sent by o same
by_message v c sent _ by o e = absurd (cc)

by_entries : (v : Transcript) (es : List Entry) (by : By) (o : Objective) → entries_outcome v es ≡ Some (outcome.Agreed by o) → Reported v (strip (said_of v.role es)) by o
by_entries v [] by o e = absurd (cc)
by_entries v (x ∷ es) by o e = by_message v (strip (said_of v.role es)) x.sent x.message by o e

pub reported : (v : Transcript) (by : By) (o : Objective) → outcome_of v ≡ Some (outcome.Agreed by o) → Reported v (known v) by o
reported v by o e = by_entries v v.entries by o (by_mark v v.mark by o e)

-- one acceptance has one speaker
pub one_speaker : (s t : Side) (c : List Said) → accepted_by s c ≡ true → accepted_by t c ≡ true → s ≡ t
one_speaker s t [] a b = absurd (false≢true a)
one_speaker s t (x ∷ c) a b =
    sym (is_side-true s x.side (and_parts (is_side s x.side) (is_acceptance x.message) a).0) ∙ is_side-true t x.side (and_parts (is_side t x.side) (is_acceptance x.message) b).0

one_of : (a b : By) → speaker Near a ≡ speaker Far b → ((a ≡ Mine) × (b ≡ Theirs)) ⊎ ((a ≡ Theirs) × (b ≡ Mine))
one_of Mine Mine e = absurd (cc)
one_of Mine Theirs e = inl (refl, refl)
one_of Theirs Mine e = inr (refl, refl)
one_of Theirs Theirs e = absurd (cc)

pub agreeing : (v w : Transcript) (a b : By) (o p : Objective) (said : List Said) → IsLegal (strip said) → v.role ≡ Near → w.role ≡ Far → known v ≡ strip said → known w ≡ strip said
    → Reported v (known v) a o → Reported w (known w) b p → Agreement a b o p said
agreeing v w a b o p said legal near far k l r q =
    let x : accepted_by (speaker Near a) (strip said) ≡ true = subst (λ c. accepted_by (speaker Near a) c ≡ true) k (subst (λ s. accepted_by (speaker s a) (known v) ≡ true) near r.accepted) in
    let y : accepted_by (speaker Far b) (strip said) ≡ true = subst (λ c. accepted_by (speaker Far b) c ≡ true) l (subst (λ s. accepted_by (speaker s b) (known w) ≡ true) far q.accepted) in
    let z : speaker Near a ≡ speaker Far b = one_speaker (speaker Near a) (speaker Far b) (strip said) x y in
    let f : o ≡ newest_offer_by (other (speaker Near a)) (strip said) = r.objective ∙ (ap (λ s. newest_offer_by (other (speaker s a)) (known v)) near ∙ ap (newest_offer_by (other (speaker Near a))) k) in
    let g : p ≡ newest_offer_by (other (speaker Far b)) (strip said) = q.objective ∙ (ap (λ s. newest_offer_by (other (speaker s b)) (known w)) far ∙ ap (newest_offer_by (other (speaker Far b))) l) in
    record { one = one_of a b z; same = f ∙ (ap (λ s. newest_offer_by (other s) (strip said)) z ∙ sym g); offered = f; made = accepted_made (speaker Near a) (strip said) legal x }
