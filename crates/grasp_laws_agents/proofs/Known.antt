-- What an end knows of its own offers, and what it says of them.
use Rattle.std.proofs.Common.{◌≡◌, ℕ, Bool, true, false, cond, not, ◌&&◌, ◌||◌, List, [], ◌∷◌, Option, Some, None, is_none, refl, sym, ap, ◌∙◌, subst}
use Rattle.std.proofs.lemmas.Bool.{false≢true, and_parts, and_right}
use Rattle.std.proofs.lemmas.Option.{same_Some}
use Rattle.grasp_types.specs.declared.message.Message.{Message}
use Rattle.grasp_types.specs.declared.message.Message.TheVariants.{Negotiate, Wait, End, Synch, Invalid}
use Rattle.grasp_cbor.specs.DataItem.{DataItem}
use Rattle.grasp_types.specs.declared.message.Verdict.{Verdict}
use Rattle.grasp_types.specs.declared.message.Verdict.TheVariants.{Accept, Decline}
use Rattle.grasp_types.specs.declared.objective.Objective.{Objective}
use Rattle.grasp_types.specs.declared.session.By.{By}
use Rattle.grasp_types.specs.declared.session.Kind.{Kind}
use Rattle.grasp_types.specs.declared.session.Kind.TheVariants.{Negotiation, Synchronization}
use Rattle.grasp_types.specs.declared.session.Outcome.{Outcome}
use Rattle.grasp_types.specs.declared.session.Outcome.TheVariants as outcome
use Rattle.grasp_agent.specs.Laws.{IsPeersEnd}
use Rattle.grasp_laws_session.proofs.Bounds.{going_test}
use Rattle.grasp_laws_session.proofs.Views.{same_side, own_not_other, own_turn_of, fine_turn}
use Rattle.grasp_session.specs.Conversation.{Said, says, strip, turn, ended, answered, has_offered, accepted_by}
use Rattle.grasp_session.specs.Made.{IsBuilt}
use Rattle.grasp_session.specs.Messages.{Side, Near, Far, other, is_side, is_invalid, is_last}
use Rattle.grasp_session.specs.Transcript.{Entry, Transcript, Mark, Expired, side_of, said_of, known, is_over, is_going, is_mine, my_offer, opening, outcome_of, mark_outcome, entries_outcome, message_outcome, Saying, SayStep, SayWait, SayEnd, SayInvalid, act_of, message_of, step_objective, refusal, having_said, after_said, receive, receive_going, with_mark, after_heard, Deed, Does, Gets, Suffers, after_deed, after_deeds}
use Rattle.grasp_session.specs.declared.answer.Act.TheVariants as act
use Rattle.grasp_session.specs.declared.answer.Received.{Received}
use Rattle.grasp_session.specs.declared.answer.Received.TheVariants.{Kept, Ignored, Bad}
use Rattle.grasp_session.specs.declared.answer.SessionRefused.{SessionRefused}

-- ---- in its own turn each offer of an end is answered

abbrev pub Answers : Side → List Said → Type 0
Answers role c = turn c ≡ role → has_offered role c ≡ true → answered role c ≡ true

not_own : (s : Side) → other s ≡ s → ⊥
not_own Near e = cc
not_own Far e = cc

none_made : (b c : Bool) → ((b && false) || c) ≡ c
none_made true c = refl
none_made false c = refl

same_cond : {A : Type 0} (b : Bool) (c : A) → cond b c c ≡ c
same_cond true c = refl
same_cond false c = refl

end_answers : (b c : Bool) → c ≡ true → cond b c true ≡ true
end_answers true c e = e
end_answers false c e = refl

said_answers : (v : Transcript) (s : Saying) → refusal v (act_of s) ≡ None → Answers v.role (known v) → Answers v.role (cond (is_invalid (message_of v s)) (known v) (says v.role (message_of v s) ∷ known v))
said_answers v (SayStep value) e a t o =
    let mine : turn (known v) ≡ v.role = own_turn_of v (and_parts (is_going v) (is_mine v) (fine_turn (is_going v && is_mine v) _ e).0).1 in
    absurd (not_own v.role (ap other (sym mine) ∙ t))
said_answers v (SayWait millis) e a t o =
    same_cond (is_side v.role v.role) (answered v.role (known v)) ∙ a t (sym (none_made (is_side v.role v.role) (has_offered v.role (known v))) ∙ o)
said_answers v (SayEnd verdict) e a t o =
    end_answers (is_side v.role v.role) (answered v.role (known v)) (a t (sym (none_made (is_side v.role v.role) (has_offered v.role (known v))) ∙ o))
said_answers v (SayInvalid detail) e a t o = a t o

kept_answers : (v : Transcript) (m : Message) → receive_going v m ≡ Kept → Answers v.role (known v) → Answers v.role (cond (is_invalid m) (known v) (says (other v.role) m ∷ known v))
kept_answers v (Negotiate n q) e a t o = rw (own_not_other v.role) refl
kept_answers v (Wait n k) e a t o =
    same_cond (is_side v.role (other v.role)) (answered v.role (known v)) ∙ a t (sym (none_made (is_side v.role (other v.role)) (has_offered v.role (known v))) ∙ o)
kept_answers v (End n d) e a t o =
    end_answers (is_side v.role (other v.role)) (answered v.role (known v)) (a t (sym (none_made (is_side v.role (other v.role)) (has_offered v.role (known v))) ∙ o))
kept_answers v (Synch n q) e a t o =
    same_cond (is_side v.role (other v.role)) (answered v.role (known v)) ∙ a t (sym (none_made (is_side v.role (other v.role)) (has_offered v.role (known v))) ∙ o)
kept_answers v (Invalid n d) e a t o = a t o
kept_answers v m e a t o = absurd (cc)

deed_answers : (v : Transcript) (d : Deed) → Answers v.role (known v) → Answers (after_deed v d).role (known (after_deed v d))
deed_answers v (Does now s) a = by_refusal (refusal v (act_of s)) refl where
  by_refusal : (r : Option SessionRefused) → refusal v (act_of s) ≡ r → Answers (after_said v now s r).role (known (after_said v now s r))
  by_refusal None e = said_answers v s e a
  by_refusal (Some refused) e = a
deed_answers v (Gets now m) a = by_received (receive v m) refl where
  by_received : (r : Received) → receive v m ≡ r → Answers (after_heard v now m r).role (known (after_heard v now m r))
  by_received Kept e = kept_answers v m (going_test (is_going v) (receive_going v m) e) a
  by_received Ignored e = a
  by_received Bad e = a
deed_answers v (Suffers mark) a = by_going (is_going v) where
  by_going : (b : Bool) → Answers (cond b (with_mark v mark) v).role (known (cond b (with_mark v mark) v))
  by_going true = a
  by_going false = a

deeds_answers : (v : Transcript) (ds : List Deed) → Answers v.role (known v) → Answers (after_deeds v ds).role (known (after_deeds v ds))
deeds_answers v [] a = a
deeds_answers v (d ∷ ds) a = deeds_answers (after_deed v d) ds (deed_answers v d a)

opening_answers : (kind : Kind) (role : Side) (timeout now session : ℕ) (o : Objective) → Answers role (known (opening kind role timeout now session o))
opening_answers Negotiation Near timeout now session o t m = absurd (cc)
opening_answers Negotiation Far timeout now session o t m = absurd (false≢true m)
opening_answers Synchronization Near timeout now session o t m = absurd (cc)
opening_answers Synchronization Far timeout now session o t m = absurd (false≢true m)

pub built_answers : (v : Transcript) → IsBuilt v → Answers v.role (known v)
built_answers v b =
    subst (λ (w : Transcript). Answers w.role (known w)) (sym b.built)
    (deeds_answers (opening b.kind b.role b.timeout b.now b.session b.objective) b.deeds (opening_answers b.kind b.role b.timeout b.now b.session b.objective))

-- ---- the other end has ended the conversation

abbrev IsEndOf : Side → List Said → Type 0
IsEndOf role c = (answered role c ≡ true) × (ended c ≡ true)

end_here : (role : Side) (n : ℕ) (d : Verdict) (c : List Said) → IsEndOf role (says (other role) (End n d) ∷ c)
end_here role n d c = (rw (own_not_other role) refl, refl)

message_end : (v : Transcript) (sent : Bool) (m : Message) (c : List Said) (e : Outcome) → message_outcome v sent m ≡ Some e → IsPeersEnd e
    → IsEndOf v.role (cond (is_invalid m) c (says (side_of v.role sent) m ∷ c))
message_end v true (End n Accept) c e f t = absurd (subst IsPeersEnd (sym (same_Some _ e f)) t)
message_end v false (End n Accept) c e f t = end_here v.role n Accept c
message_end v true (End n (Decline r)) c e f t = absurd (subst IsPeersEnd (sym (same_Some _ e f)) t)
message_end v false (End n (Decline r)) c e f t = end_here v.role n (Decline r) c
message_end v sent (Synch n o) c e f t = absurd (subst IsPeersEnd (sym (same_Some _ e f)) t)
message_end v sent (Invalid n d) c e f t = absurd (subst IsPeersEnd (sym (same_Some _ e f)) t)
message_end v sent m c e f t = absurd (cc)

entries_end : (v : Transcript) (es : List Entry) (e : Outcome) → entries_outcome v es ≡ Some e → IsPeersEnd e → IsEndOf v.role (strip (said_of v.role es))
entries_end v [] e f t = absurd (cc)
entries_end v (x ∷ es) e f t = message_end v x.sent x.message (strip (said_of v.role es)) e f t

mark_end : (v : Transcript) (mark : Option Mark) (e : Outcome) → mark_outcome v mark ≡ Some e → IsPeersEnd e → IsEndOf v.role (known v)
mark_end v None e f t = entries_end v v.entries e f t
mark_end v (Some (Expired now)) e f t = absurd (subst IsPeersEnd (sym (same_Some _ e f)) t)
mark_end v (Some _) e f t = absurd (subst IsPeersEnd (sym (same_Some _ e f)) t)

-- where the other end ended the session, it has answered this end's last offer, and the conversation is over
pub their_end : (v : Transcript) (e : Outcome) → outcome_of v ≡ Some e → IsPeersEnd e → (answered v.role (known v) ≡ true) × (ended (known v) ≡ true)
their_end v e f t = mark_end v v.mark e f t

-- after a decline nobody has accepted
abbrev IsDecline : Outcome → Type 0
IsDecline (outcome.Declined by reason) = Unit {0}
IsDecline _ = ⊥

message_declined : (v : Transcript) (sent : Bool) (m : Message) (c : List Said) (e : Outcome) → message_outcome v sent m ≡ Some e → IsDecline e
    → (s : Side) → accepted_by s (cond (is_invalid m) c (says (side_of v.role sent) m ∷ c)) ≡ false
message_declined v sent (End n Accept) c e f t s = absurd (subst IsDecline (sym (same_Some _ e f)) t)
message_declined v sent (End n (Decline r)) c e f t s = and_right (is_side s (side_of v.role sent)) false refl
message_declined v sent (Synch n o) c e f t s = absurd (subst IsDecline (sym (same_Some _ e f)) t)
message_declined v sent (Invalid n d) c e f t s = absurd (subst IsDecline (sym (same_Some _ e f)) t)
message_declined v sent m c e f t s = absurd (cc)

entries_declined : (v : Transcript) (es : List Entry) (e : Outcome) → entries_outcome v es ≡ Some e → IsDecline e → (s : Side) → accepted_by s (strip (said_of v.role es)) ≡ false
entries_declined v [] e f t s = absurd (cc)
entries_declined v (x ∷ es) e f t s = message_declined v x.sent x.message (strip (said_of v.role es)) e f t s

mark_declined : (v : Transcript) (mark : Option Mark) (e : Outcome) → mark_outcome v mark ≡ Some e → IsDecline e → (s : Side) → accepted_by s (known v) ≡ false
mark_declined v None e f t s = entries_declined v v.entries e f t s
mark_declined v (Some (Expired now)) e f t s = absurd (subst IsDecline (sym (same_Some _ e f)) t)
mark_declined v (Some _) e f t s = absurd (subst IsDecline (sym (same_Some _ e f)) t)

pub declined_unaccepted : (v : Transcript) (by : By) (reason : Option (List ℕ)) → outcome_of v ≡ Some (outcome.Declined by reason) → (s : Side) → accepted_by s (known v) ≡ false
declined_unaccepted v by reason f s = mark_declined v v.mark (outcome.Declined by reason) f tt s

-- ---- where there is no outcome

message_open : (v : Transcript) (sent : Bool) (m : Message) → message_outcome v sent m ≡ None → is_last m ≡ false
message_open v sent (End n d) e = absurd (cc)
message_open v sent (Synch n o) e = absurd (cc)
message_open v sent (Invalid n d) e = absurd (cc)
message_open v sent m e = refl

entries_open : (v : Transcript) (es : List Entry) → entries_outcome v es ≡ None → is_over es ≡ false
entries_open v [] e = refl
entries_open v (x ∷ es) e = message_open v x.sent x.message e

mark_open : (v : Transcript) (mark : Option Mark) → mark_outcome v mark ≡ None → (is_none mark && not (is_over v.entries)) ≡ true
mark_open v None e = ap not (entries_open v v.entries e)
mark_open v (Some (Expired now)) e = absurd (cc)
mark_open v (Some _) e = absurd (cc)

pub none_goes_on : (v : Transcript) → outcome_of v ≡ None → is_going v ≡ true
none_goes_on v e = mark_open v v.mark e

pub may_say_end : (v : Transcript) → is_going v ≡ true → is_mine v ≡ true → refusal v act.End ≡ None
may_say_end v g m = rw (g, m) refl

-- ---- what this end says of its own

pub step_made : (v : Transcript) (now : ℕ) (value : DataItem) → has_offered v.role (known (having_said v now (SayStep value))) ≡ true
step_made v now value = rw (same_side v.role) refl

pub step_offer : (v : Transcript) (now : ℕ) (value : DataItem) → my_offer (having_said v now (SayStep value)) ≡ step_objective v value
step_offer v now value = rw (same_side v.role) refl

pub end_made : (v : Transcript) (now : ℕ) (d : Verdict) → has_offered v.role (known (having_said v now (SayEnd d))) ≡ has_offered v.role (known v)
end_made v now d = none_made (is_side v.role v.role) (has_offered v.role (known v))

pub end_offer : (v : Transcript) (now : ℕ) (d : Verdict) → my_offer (having_said v now (SayEnd d)) ≡ my_offer v
end_offer v now d = same_cond (is_side v.role v.role) (my_offer v)

pub end_answered : (v : Transcript) (now : ℕ) (d : Verdict) → answered v.role (known (having_said v now (SayEnd d))) ≡ answered v.role (known v)
end_answered v now d = rw (same_side v.role) refl
