-- What the outcome of a session tells of its transcript.
use Rattle.std.proofs.Common.{◌≡◌, inl, inr, ℕ, Bool, true, false, not, ◌&&◌, List, [], ◌∷◌, Option, Some, None, is_none, refl, sym, ap, ◌∙◌, subst}
use Rattle.std.proofs.lemmas.Bool.{false≢true}
use Rattle.std.proofs.lemmas.Option.{same_Some}
use Rattle.grasp_cbor.specs.DataItem.{DataItem}
use Rattle.grasp_types.specs.declared.message.Message.{Message}
use Rattle.grasp_types.specs.declared.message.Message.TheVariants.{End, Synch, Invalid}
use Rattle.grasp_types.specs.declared.message.Verdict.{Verdict}
use Rattle.grasp_types.specs.declared.message.Verdict.TheVariants.{Accept, Decline}
use Rattle.grasp_types.specs.declared.session.By.{By}
use Rattle.grasp_types.specs.declared.session.By.TheVariants.{Mine, Theirs}
use Rattle.grasp_types.specs.declared.session.Outcome.{Outcome}
use Rattle.grasp_types.specs.declared.session.Outcome.TheVariants as outcome
use Rattle.grasp_session.specs.Conversation.{newest_offer_by}
use Rattle.grasp_session.specs.Messages.{Side, Near, Far, other, is_last}
use Rattle.grasp_session.specs.Transcript.{Entry, Mark, Expired, Closed, Starved, Faulty, Transcript, side_of, known, is_over, deadline_of, by_of, verdict_outcome, message_outcome, entries_outcome, mark_outcome, outcome_of}
use Rattle.grasp_laws_receiving.specs.Outcomes.{was_sent, EndedBy, accepted_offer, HasCause, OutcomesHaveCauses}

-- ---- sides

by_sent : (by : By) → by_of (was_sent by) ≡ by
by_sent Mine = refl
by_sent Theirs = refl

sent_by : (sent : Bool) → was_sent (by_of sent) ≡ sent
sent_by true = refl
sent_by false = refl

other_twice : (s : Side) → other (other s) ≡ s
other_twice Near = refl
other_twice Far = refl

-- the offer that an acceptance takes is the last one of the other side
taken_offer : (v : Transcript) (sent : Bool) → newest_offer_by (other (side_of v.role sent)) (known v) ≡ accepted_offer v (by_of sent)
taken_offer v true = refl
taken_offer v false = ap (λ s. newest_offer_by s (known v)) (other_twice v.role)

-- ---- from the outcome to its cause

-- nothing ended the session from outside, and this is its newest message
pub record Newest (v : Transcript) (e : Entry) (es : List Entry) : Type 0 where
  pub unmarked : v.mark ≡ None
  pub newest : v.entries ≡ e ∷ es

ended_by : (v : Transcript) (e : Entry) (es : List Entry) (m : Message) → Newest v e es → e.message ≡ m → EndedBy v (by_of e.sent) m
ended_by v e es m k same = record { unmarked = k.unmarked; entry = e; before = es; newest = k.newest; message = same; side = sym (sent_by e.sent) }

by_verdict : (v : Transcript) (e : Entry) (es : List Entry) (n : ℕ) (verdict : Verdict) → Newest v e es → e.message ≡ End n verdict → HasCause v (verdict_outcome v e.sent verdict)
by_verdict v e es n Accept k same = (n, ended_by v e es (End n Accept) k same, taken_offer v e.sent)
by_verdict v e es n (Decline reason) k same = (n, ended_by v e es (End n (Decline reason)) k same)

by_invalid : (v : Transcript) (n : ℕ) (d : Option DataItem) (sent : Bool) → EndedBy v (by_of sent) (Invalid n d) → HasCause v (outcome.Invalid (by_of sent))
by_invalid v n d true h = inr (n, d, h)
by_invalid v n d false h = (n, d, h)

by_message : (v : Transcript) (e : Entry) (es : List Entry) (m : Message) (o : Outcome) → Newest v e es → e.message ≡ m → message_outcome v e.sent m ≡ Some o → HasCause v o
by_message v e es (End n verdict) o k same f = subst (HasCause v) (same_Some (verdict_outcome v e.sent verdict) o f) (by_verdict v e es n verdict k same)
by_message v e es (Synch n p) o k same f = subst (HasCause v) (same_Some (outcome.Synchronized p) o f) (n, by_of e.sent, ended_by v e es (Synch n p) k same)
by_message v e es (Invalid n d) o k same f = subst (HasCause v) (same_Some (outcome.Invalid (by_of e.sent)) o f) (by_invalid v n d e.sent (ended_by v e es (Invalid n d) k same))
by_message v e es m o k same f = absurd (cc)

by_entries : (v : Transcript) (es : List Entry) (o : Outcome) → v.mark ≡ None → v.entries ≡ es → entries_outcome v es ≡ Some o → HasCause v o
by_entries v [] o u n f = absurd (cc)
by_entries v (e ∷ es) o u n f = by_message v e es e.message o (record { unmarked = u; newest = n }) refl f

by_mark : (v : Transcript) (mark : Option Mark) (o : Outcome) → v.mark ≡ mark → mark_outcome v mark ≡ Some o → HasCause v o
by_mark v None o u f = by_entries v v.entries o u refl f
by_mark v (Some (Expired now)) o u f = subst (HasCause v) (same_Some (outcome.TimedOut (deadline_of v) now) o f) (u, refl)
by_mark v (Some Closed) o u f = subst (HasCause v) (same_Some outcome.Broken o f) u
by_mark v (Some Starved) o u f = subst (HasCause v) (same_Some outcome.OutOfMemory o f) u
by_mark v (Some Faulty) o u f = subst (HasCause v) (same_Some (outcome.Invalid Mine) o f) (inl u)

-- ---- from the cause to the outcome

by_mark_of : (v : Transcript) (mark : Option Mark) → v.mark ≡ mark → outcome_of v ≡ mark_outcome v mark
by_mark_of v mark u = ap (mark_outcome v) u

brings : (v : Transcript) (by : By) (m : Message) → EndedBy v by m → outcome_of v ≡ message_outcome v (was_sent by) m
brings v by m h =
    by_mark_of v None h.unmarked
    ∙ (ap (entries_outcome v) h.newest ∙ (ap (λ sent. message_outcome v sent h.entry.message) h.side ∙ ap (message_outcome v (was_sent by)) h.message))

agreed : (v : Transcript) (n : ℕ) (by : By) → message_outcome v (was_sent by) (End n Accept) ≡ Some (outcome.Agreed by (accepted_offer v by))
agreed v n Mine = refl
agreed v n Theirs = ap (λ o. Some (outcome.Agreed Theirs o)) (taken_offer v false)

declined : (v : Transcript) (n : ℕ) (by : By) (reason : Option (List ℕ)) → message_outcome v (was_sent by) (End n (Decline reason)) ≡ Some (outcome.Declined by reason)
declined v n by reason = ap (λ b. Some (outcome.Declined b reason)) (by_sent by)

comes : (v : Transcript) (o : Outcome) → HasCause v o → outcome_of v ≡ Some o
comes v (outcome.Agreed by o) h = brings v by (End h.0 Accept) h.1 ∙ (agreed v h.0 by ∙ ap (λ p. Some (outcome.Agreed by p)) (sym h.2))
comes v (outcome.Declined by reason) h = brings v by (End h.0 (Decline reason)) h.1 ∙ declined v h.0 by reason
comes v (outcome.Synchronized o) h = brings v h.1 (Synch h.0 o) h.2
comes v (outcome.TimedOut deadline now) h = by_mark_of v (Some (Expired now)) h.0 ∙ ap (λ d. Some (outcome.TimedOut d now)) (sym h.1)
comes v outcome.Broken h = by_mark_of v (Some Closed) h
comes v outcome.OutOfMemory h = by_mark_of v (Some Starved) h
comes v (outcome.Invalid Mine) (inl h) = by_mark_of v (Some Faulty) h
comes v (outcome.Invalid Mine) (inr h) = brings v Mine (Invalid h.0 h.1) h.2
comes v (outcome.Invalid Theirs) h = brings v Theirs (Invalid h.0 h.1) h.2

-- ---- none while the session goes on

last_or_none : (v : Transcript) (sent : Bool) (m : Message) → (message_outcome v sent m ≡ None → not (is_last m) ≡ true) × (not (is_last m) ≡ true → message_outcome v sent m ≡ None)
last_or_none v sent (End n verdict) = (λ e. absurd (cc), λ e. absurd (false≢true e))
last_or_none v sent (Synch n o) = (λ e. absurd (cc), λ e. absurd (false≢true e))
last_or_none v sent (Invalid n d) = (λ e. absurd (cc), λ e. absurd (false≢true e))
last_or_none v sent m = (λ e. refl, λ e. refl)

over_or_none : (v : Transcript) (es : List Entry) → (entries_outcome v es ≡ None → not (is_over es) ≡ true) × (not (is_over es) ≡ true → entries_outcome v es ≡ None)
over_or_none v [] = (λ e. refl, λ e. refl)
over_or_none v (e ∷ es) = last_or_none v e.sent e.message

goes_on : (v : Transcript) (mark : Option Mark) → (mark_outcome v mark ≡ None → (is_none mark && not (is_over v.entries)) ≡ true) × ((is_none mark && not (is_over v.entries)) ≡ true → mark_outcome v mark ≡ None)
goes_on v None = over_or_none v v.entries
goes_on v (Some (Expired now)) = (λ e. absurd (cc), λ e. absurd (false≢true e))
goes_on v (Some Closed) = (λ e. absurd (cc), λ e. absurd (false≢true e))
goes_on v (Some Starved) = (λ e. absurd (cc), λ e. absurd (false≢true e))
goes_on v (Some Faulty) = (λ e. absurd (cc), λ e. absurd (false≢true e))

pub outcomes_have_causes : OutcomesHaveCauses
outcomes_have_causes = record { causes = λ v o. (λ e. by_mark v v.mark o refl e, λ h. comes v o h); none = λ v. goes_on v v.mark }
