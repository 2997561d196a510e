-- What an outcome says of the conversation.
use Rattle.std.proofs.Common.{◌≡◌, ℕ, Bool, true, false, cond, ◌&&◌, List, [], ◌∷◌, ◌⊎◌, inl, inr, Option, Some, None, refl, sym, ap, ◌∙◌, subst}
use Rattle.std.proofs.lemmas.Bool.{cond-true, and_parts, and_right}
use Rattle.grasp_session.specs.Messages.{Side, Near, Far, other, is_side, is_invalid, is_end, is_acceptance}
use Rattle.grasp_types.specs.declared.objective.Objective.{Objective}
use Rattle.grasp_types.specs.declared.message.Verdict.TheVariants.{Accept, Decline}
use Rattle.grasp_types.specs.declared.message.Message.{Message}
use Rattle.grasp_types.specs.declared.message.Message.TheVariants.{Synch, End, Invalid}
use Rattle.grasp_session.specs.Conversation.{Said, says, strip, ended, accepted_by, DeclinesWith, IsDeclined, newest_offer_by, IsLegal, Trails}
use Rattle.grasp_session.specs.Transcript.{Entry, Transcript, Mark, Expired, Closed, Starved, Faulty, side_of, said_of, known, is_over, is_going, is_mine, outcome_of, mark_outcome, entries_outcome, message_outcome, by_of, SayEnd, message_of, with_sent}
use Rattle.grasp_types.specs.declared.session.By.{By}
use Rattle.grasp_types.specs.declared.session.By.TheVariants.{Mine, Theirs}
use Rattle.grasp_types.specs.declared.session.Outcome.TheVariants as outcome
use Rattle.grasp_session.specs.Laws.{speaker, OutcomeSays, OutcomesSay, AcceptsTheLast}
use Rattle.grasp_laws_session.proofs.Follows.{other_other}
use Rattle.grasp_laws_session.proofs.Trailing.{trails_legal, still_whole}
use Rattle.grasp_laws_session.proofs.Views.{over_ended, going_not_ended, fine_turn}
use Rattle.grasp_laws_session.proofs.Agreeing.{Reported, reported}
use Rattle.grasp_laws_session.proofs.Offers.{trails_offer, trails_unanswered, turn_unanswered}
use Rattle.grasp_laws_session.proofs.Built.{Tidy, tail_over, tidy_run, going_unmarked}
use Rattle.grasp_laws_session.proofs.Ends.{sound, sound_view}
use Rattle.grasp_laws_session.proofs.Turns.{turns_say}

says_agreed : (side : Side) (said : List Said) (v : Transcript) (by : By) (o : Objective) → IsLegal (strip said) → v.role ≡ side → Trails side (known v) (strip said) → Reported v (known v) by o
    → (known v ≡ strip said) × (accepted_by (speaker side by) (strip said) ≡ true) × (o ≡ newest_offer_by (other (speaker side by)) (strip said))
says_agreed side said v by o l role t r =
    let w : known v ≡ strip said = still_whole side (known v) (strip said) l t (inr r.over) in (
      w,
      subst (λ c. accepted_by (speaker side by) c ≡ true) w (subst (λ s. accepted_by (speaker s by) (known v) ≡ true) role r.accepted),
      r.objective ∙ (ap (λ s. newest_offer_by (other (speaker s by)) (known v)) role ∙ ap (newest_offer_by (other (speaker side by))) w),
    )

-- a decline ends what is said, and nobody accepts by it
declines_are : (reason : Option (List ℕ)) (m : Message) → DeclinesWith reason m → (is_end m ≡ true) × (is_acceptance m ≡ false)
declines_are reason (End n (Decline r)) d = (refl, refl)
declines_are reason _ d = absurd d

decline_ends : (side : Side) (reason : Option (List ℕ)) (c : List Said) → IsDeclined side reason c → (ended c ≡ true) × ((s : Side) → accepted_by s c ≡ false)
decline_ends side reason [] d = absurd d
decline_ends side reason (x ∷ c) d = let p = declines_are reason x.message d.1 in (p.0, λ s. and_right (is_side s x.side) (is_acceptance x.message) p.1)

-- a decline that an end reports is the newest
declined_parts : (v : Transcript) (c : List Said) (n : ℕ) (r : Option (List ℕ)) (sent : Bool) (by : By) (reason : Option (List ℕ)) → outcome.Declined (by_of sent) r ≡ outcome.Declined by reason
    → IsDeclined (speaker v.role by) reason (says (side_of v.role sent) (End n (Decline r)) ∷ c)
declined_parts v c n r true Mine reason e = (refl, cc)
declined_parts v c n r true Theirs reason e = absurd (cc)
declined_parts v c n r false Mine reason e = absurd (cc)
declined_parts v c n r false Theirs reason e = (refl, cc)

declined_message : (v : Transcript) (c : List Said) (sent : Bool) (m : Message) (by : By) (reason : Option (List ℕ)) → message_outcome v sent m ≡ Some (outcome.Declined by reason)
    → IsDeclined (speaker v.role by) reason (cond (is_invalid m) c (says (side_of v.role sent) m ∷ c))
declined_message v c sent (End n (Decline r)) by reason e = let same : outcome.Declined (by_of sent) r ≡ outcome.Declined by reason = cc in declined_parts v c n r sent by reason same
declined_message v c sent _ by reason e = absurd (cc)

declined_entries : (v : Transcript) (es : List Entry) (by : By) (reason : Option (List ℕ)) → entries_outcome v es ≡ Some (outcome.Declined by reason)
    → IsDeclined (speaker v.role by) reason (strip (said_of v.role es))
declined_entries v [] by reason e = absurd (cc)
declined_entries v (x ∷ es) by reason e = declined_message v (strip (said_of v.role es)) x.sent x.message by reason e

says_declined : (side : Side) (said : List Said) (v : Transcript) (by : By) (reason : Option (List ℕ)) → IsLegal (strip said) → v.role ≡ side → Trails side (known v) (strip said) → IsDeclined (speaker v.role by) reason (known v)
    → (known v ≡ strip said) × IsDeclined (speaker side by) reason (strip said) × (ended (strip said) ≡ true) × ((s : Side) → accepted_by s (strip said) ≡ false)
says_declined side said v by reason l role t d =
    let over : ended (known v) ≡ true = (decline_ends (speaker v.role by) reason (known v) d).0 in
    let w : known v ≡ strip said = still_whole side (known v) (strip said) l t (inr over) in
    let whose : IsDeclined (speaker side by) reason (strip said) = subst (IsDeclined (speaker side by) reason) w (subst (λ s. IsDeclined (speaker s by) reason (known v)) role d) in
    let p = decline_ends (speaker side by) reason (strip said) whose in (w, whose, p.0, p.1)

-- what is told of the outcome of a tidy view, by its mark and its newest message
record Told (side : Side) (said : List Said) (v : Transcript) : Type 0 where
  legal : IsLegal (strip said)
  role : v.role ≡ side
  trails : Trails side (known v) (strip said)
  tidy : Tidy v

tail_ended : (v : Transcript) (e : Entry) (es : List Entry) → v.entries ≡ e ∷ es → Tidy v → is_over es ≡ false
tail_ended v e es same t = subst (λ (l : List Entry). tail_over l ≡ false) same t.tail

no_synch : (s : Side) (n : ℕ) (o : Objective) (m : Message) (c : List Said) → m ≡ Synch n o → IsLegal (cond (is_invalid m) c (says s m ∷ c)) → ⊥
no_synch s n o m c e l = (subst (λ x. IsLegal (cond (is_invalid x) c (says s x ∷ c))) e l).0

goes_on : (v : Transcript) → is_going v ≡ true → (is_going v ≡ true) × (ended (known v) ≡ false)
goes_on v g = (g, going_not_ended v g)

message_says : (side : Side) (said : List Said) (v : Transcript) (e : Entry) (es : List Entry) (m : Message) → e.message ≡ m → v.entries ≡ e ∷ es → v.mark ≡ None → Told side said v
    → outcome_of v ≡ message_outcome v e.sent m → OutcomeSays side said v (message_outcome v e.sent m)
message_says side said v e es (End n Accept) f g k t h = says_agreed side said v (by_of e.sent) _ t.legal t.role t.trails (reported v (by_of e.sent) _ h)
message_says side said v e es (End n (Decline r)) f g k t h = says_declined side said v (by_of e.sent) r t.legal t.role t.trails (declined_entries v v.entries (by_of e.sent) r (sym (ap (mark_outcome v) k) ∙ h))
message_says side said v e es (Invalid n d) f g k t h =
    let same : known v ≡ strip (said_of v.role es) = ap (λ (l : List Entry). strip (said_of v.role l)) g ∙ cond-true (is_invalid e.message) (strip (said_of v.role es)) (says (side_of v.role e.sent) e.message ∷ strip (said_of v.role es)) (ap is_invalid f) in
    ap ended same ∙ over_ended v.role es (tail_ended v e es g t.tidy)
message_says side said v e es (Synch n o) f g k t h = absurd (no_synch (side_of v.role e.sent) n o e.message (strip (said_of v.role es)) f (subst (λ (l : List Entry). IsLegal (strip (said_of v.role l))) g (trails_legal side (known v) (strip said) t.legal t.trails)))
message_says side said v e es _ f g k t h = goes_on v (rw (k, g, f) refl)

entries_say : (side : Side) (said : List Said) (v : Transcript) (es : List Entry) → v.entries ≡ es → v.mark ≡ None → Told side said v → outcome_of v ≡ entries_outcome v es → OutcomeSays side said v (entries_outcome v es)
entries_say side said v [] g k t h = goes_on v (rw (k, g) refl)
entries_say side said v (e ∷ es) g k t h = message_says side said v e es e.message refl g k t h

marked_ended : (side : Side) (said : List Said) (v : Transcript) (mark : Mark) → v.mark ≡ Some mark → Told side said v → ended (known v) ≡ false
marked_ended side said v mark k t = over_ended v.role v.entries (not_over t.tidy.unmarked) where
  not_over : (v.mark ≡ None) ⊎ (is_over v.entries ≡ false) → is_over v.entries ≡ false
  not_over (inl none) = absurd (cc)
  not_over (inr over) = over

mark_says : (side : Side) (said : List Said) (v : Transcript) (mark : Option Mark) → v.mark ≡ mark → Told side said v → OutcomeSays side said v (mark_outcome v mark)
mark_says side said v None k t = entries_say side said v v.entries refl k t (ap (mark_outcome v) k)
mark_says side said v (Some (Expired now)) k t = marked_ended side said v (Expired now) k t
mark_says side said v (Some Closed) k t = marked_ended side said v Closed k t
mark_says side said v (Some Starved) k t = marked_ended side said v Starved k t
mark_says side said v (Some Faulty) k t = marked_ended side said v Faulty k t

pub outcomes_say : OutcomesSay
outcomes_say t r side v e =
    let s = sound_view t r side v e in
    mark_says side t.said v v.mark refl (record { legal = (sound t r).legal; role = s.role; trails = s.trails; tidy = tidy_run t r side v e })

-- an end that may accept
pub accepts : AcceptsTheLast
accepts t r side v w e f fine =
    let s = sound_view t r side v e in
    let u = sound_view t r (other side) w f in
    let p = fine_turn (is_going v && is_mine v) None fine in
    let q = and_parts (is_going v) (is_mine v) p.0 in
    let k = turns_say t r side v e q.0 q.1 in
    let offer : newest_offer_by (other side) (known v) ≡ newest_offer_by (other side) (known w) = ap (newest_offer_by (other side)) k.whole ∙ sym (trails_offer (other side) (known w) (strip t.said) u.trails) in
    record {
      whole = k.whole;
      its_turn = k.its_turn;
      no_end = k.no_end;
      made = k.made;
      same_offer = offer;
      no_answer = trails_unanswered (other side) (known w) (strip t.said) u.trails (turn_unanswered (other side) (strip t.said) (sound t r).legal (k.its_turn ∙ sym (other_other side)) k.no_end);
      agrees = λ now. accepting_outcome side v w now s.role (going_unmarked v q.0) offer;
    } where
      first_offer : (side : Side) (v : Transcript) → newest_offer_by (other side) (says side (message_of v (SayEnd Accept)) ∷ known v) ≡ newest_offer_by (other side) (known v)
      first_offer Near v = refl
      first_offer Far v = refl

      accepting_outcome : (side : Side) (v w : Transcript) (now : ℕ) → v.role ≡ side → v.mark ≡ None → newest_offer_by (other side) (known v) ≡ newest_offer_by (other side) (known w)
          → outcome_of (with_sent v now (message_of v (SayEnd Accept))) ≡ Some (outcome.Agreed Mine (newest_offer_by (other side) (known w)))
      accepting_outcome side v w now role none offer = rw none (ap (λ (o : Objective). Some (outcome.Agreed Mine o)) (ap (λ r. newest_offer_by (other r) (says r (message_of v (SayEnd Accept)) ∷ known v)) role ∙ (first_offer side v ∙ offer)))
