-- What an end knows whose turn it is, and what moves leave meanwhile.
use Rattle.std.proofs.Common.{◌≡◌, ◌≢◌, ℕ, Bool, true, false, cond, ◌&&◌, ◌||◌, List, ◌∷◌, inl, inr, Some, refl, sym, ap, ◌∙◌, subst}
use Rattle.std.proofs.lemmas.Bool.{true≢false}
use Rattle.grasp_types.specs.declared.objective.Objective.{Objective}
use Rattle.grasp_types.specs.declared.message.Message.{Message}
use Rattle.grasp_types.specs.declared.message.Message.TheVariants.{ReqNeg, Negotiate, Wait, End, Invalid}
use Rattle.grasp_session.specs.Messages.{Side, Near, Far, other, is_side, is_invalid}
use Rattle.grasp_session.specs.Conversation.{Said, says, strip, begun, ended, turn, accepted_by, has_offered, newest_offer_by, IsLegal}
use Rattle.grasp_session.specs.Transcript.{Transcript, known, Saying, SayStep, SayWait, SayEnd, SayInvalid, message_of}
use Rattle.grasp_session.specs.Talk.{Move, Requests, RefusesFar, Says, moved}
use Rattle.grasp_laws_session.specs.Turns.{TurnsSay, said_by, TurnsHold, offered_by, OfferHolds, OffersHold}
use Rattle.grasp_laws_session.proofs.Follows.{follows_turn}
use Rattle.grasp_laws_session.proofs.Trailing.{still_whole}
use Rattle.grasp_laws_session.proofs.Views.{own_turn_of, going_not_ended}
use Rattle.grasp_laws_session.proofs.Offers.{accepted_ended, turn_offered}
use Rattle.grasp_laws_session.proofs.Moves.{moved_sound}
use Rattle.grasp_laws_session.proofs.Ends.{sound, sound_view}
use Rattle.grasp_laws_session.proofs.Growing.{Adds, Grown, moved_grown}

-- nobody accepted where no end stands
pub none_accepted : (c : List Said) → ended c ≡ false → (side : Side) → accepted_by side c ≡ false
none_accepted c e side = by_test (accepted_by side c) refl where
  by_test : (b : Bool) → accepted_by side c ≡ b → b ≡ false
  by_test true a = absurd (true≢false (sym (accepted_ended side c a) ∙ e))
  by_test false a = refl

pub turns_say : TurnsSay
turns_say t r side v e g m =
    let s = sound_view t r side v e in
    let mine : turn (known v) ≡ side = own_turn_of v m ∙ s.role in
    let whole : known v ≡ strip t.said = still_whole side (known v) (strip t.said) (sound t r).legal s.trails (inl mine) in
    let here : turn (strip t.said) ≡ side = sym (ap turn whole) ∙ mine in
    let open_yet : ended (strip t.said) ≡ false = sym (ap ended whole) ∙ going_not_ended v g in
    record {
      whole = whole;
      its_turn = here;
      no_end = open_yet;
      no_acceptance = none_accepted (strip t.said) open_yet;
      offer = ap (λ (x : Side). newest_offer_by (other x) (known v)) s.role ∙ ap (newest_offer_by (other side)) whole;
      made = subst (λ (x : Side). has_offered (other x) (strip t.said) ≡ true) here
          (turn_offered (strip t.said) (sound t r).legal (sym (ap begun whole) ∙ s.has_begun));
    }

-- what a move adds is of the side that says it
pub adds_side : (m : Move) (x : Said) → Adds m x → said_by m ≡ Some x.side
adds_side (Requests now timeout session o) x a = ap (λ (y : Said). Some y.side) (sym a)
adds_side (RefusesFar reason) x a = ap (λ (y : Said). Some y.side) (sym a.1)
adds_side (Says side now s) x a = ap (λ (y : Said). Some y.side) (sym a.1)
adds_side _ x a = absurd a

-- only an invalid message is said out of turn
held_message : (s : Side) (m : Message) (c : List Said) → IsLegal (cond (is_invalid m) c (says s m ∷ c)) → s ≢ turn c → cond (is_invalid m) c (says s m ∷ c) ≡ c
held_message s (ReqNeg n o) c l out = absurd (out (follows_turn c s (ReqNeg n o) l.0))
held_message s (Negotiate n o) c l out = absurd (out (follows_turn c s (Negotiate n o) l.0))
held_message s (Wait n t) c l out = absurd (out (follows_turn c s (Wait n t) l.0))
held_message s (End n v) c l out = absurd (out (follows_turn c s (End n v) l.0))
held_message s (Invalid n d) c l out = refl
held_message s m c l out = absurd l.0

held : (m : Move) (side : Side) (old new : List Said) → Grown (Adds m) old new → IsLegal (strip new) → turn (strip old) ≡ side → said_by m ≢ Some side
    → strip new ≡ strip old
held m side old new (inl e) l t out = ap strip e
held m side old new (inr p) l t out =
    ap strip p.1 ∙ held_message p.0.side p.0.message (strip old) (subst (λ (c : List Said). IsLegal (strip c)) p.1 l)
    (λ e. out (adds_side m p.0 p.2 ∙ ap (λ (s : Side). Some s) (e ∙ t)))

pub turns_hold : TurnsHold
turns_hold t r m side e out = held m side t.said (moved t m).said (moved_grown t m) (moved_sound t m (sound t r)).legal e out

-- a message that offers nothing, and one of the other side
same_cond : (b : Bool) (o : Objective) → cond b o o ≡ o
same_cond true o = refl
same_cond false o = refl

no_more : (b c : Bool) → ((b && false) || c) ≡ c
no_more true c = refl
no_more false c = refl

other_offer : (s side : Side) (o p : Objective) (c : Bool) → Some s ≢ Some side → (cond (is_side side s) o p ≡ p) × (((is_side side s && true) || c) ≡ c)
other_offer Near Near o p c out = absurd (out refl)
other_offer Near Far o p c out = (refl, refl)
other_offer Far Near o p c out = (refl, refl)
other_offer Far Far o p c out = absurd (out refl)

-- what each move says
said_holds : (side s : Side) (now : ℕ) (v : Transcript) (sg : Saying) (c : List Said) → offered_by (Says s now sg) ≢ Some side
    → OfferHolds side (strip c) (strip (says s (message_of v sg) ∷ c))
said_holds side s now v (SayStep value) c out =
    let k = other_offer s side _ (newest_offer_by side (strip c)) (has_offered side (strip c)) out in record { newest = k.0; made = k.1 }
said_holds side s now v (SayWait millis) c out = record { newest = same_cond (is_side side s) _; made = no_more (is_side side s) _ }
said_holds side s now v (SayEnd verdict) c out = record { newest = same_cond (is_side side s) _; made = no_more (is_side side s) _ }
said_holds side s now v (SayInvalid detail) c out = record { newest = refl; made = refl }

added_holds : (m : Move) (x : Said) (side : Side) (c : List Said) → Adds m x → offered_by m ≢ Some side → OfferHolds side (strip c) (strip (x ∷ c))
added_holds (Requests now timeout session o) x side c a out =
    let k = other_offer Near side o (newest_offer_by side (strip c)) (has_offered side (strip c)) out in
    subst (λ (y : Said). OfferHolds side (strip c) (strip (y ∷ c))) (sym a) (record { newest = k.0; made = k.1 })
added_holds (RefusesFar reason) x side c a out =
    subst (λ (y : Said). OfferHolds side (strip c) (strip (y ∷ c))) (sym a.1)
    (record { newest = same_cond (is_side side Far) _; made = no_more (is_side side Far) _ })
added_holds (Says s now sg) x side c a out = subst (λ (y : Said). OfferHolds side (strip c) (strip (y ∷ c))) (sym a.1) (said_holds side s now a.0 sg c out)
added_holds _ x side c a out = absurd a

grown_holds : (m : Move) (side : Side) (old new : List Said) → Grown (Adds m) old new → offered_by m ≢ Some side → OfferHolds side (strip old) (strip new)
grown_holds m side old new (inl e) out =
    record { newest = ap (λ (c : List Said). newest_offer_by side (strip c)) e; made = ap (λ (c : List Said). has_offered side (strip c)) e }
grown_holds m side old new (inr p) out = subst (λ (c : List Said). OfferHolds side (strip old) (strip c)) (sym p.1) (added_holds m p.0 side old p.2 out)

pub offers_hold : OffersHold
offers_hold t m side out = grown_holds m side t.said (moved t m).said (moved_grown t m) out
