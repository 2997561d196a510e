-- What an end may say and what it keeps, against what may follow.
use Rattle.std.proofs.Common.{Some, None, Option, ◌≡◌, ℕ, ◌<◌, Bool, true, false, cond, not, ◌&&◌, List, [], ◌∷◌, ◌⊎◌, inl, inr, is_none, refl, sym, ap, ◌∙◌, arith, nat_lt, ◌==◌}
use Rattle.std.proofs.lemmas.Bool.{false≢true, true≢false, and_parts, and_from, ltb-true, lt-ltb, eq-eqb, not_from_false, not-true, cond-true}
use Rattle.std.specs.Str.{bytes_eq}
use Rattle.std.proofs.lemmas.Slice.Eq.{bytes_eq-Decides}
use Rattle.grasp_session.specs.Messages.{Side, Near, Far, other, is_side, is_invalid, is_last}
use Rattle.grasp_types.specs.declared.objective.Objective.{Objective}
use Rattle.grasp_types.specs.declared.session.Kind.TheVariants.{Negotiation}
use Rattle.grasp_types.specs.declared.message.Verdict.{Verdict}
use Rattle.grasp_types.specs.declared.message.Verdict.TheVariants.{Accept, Decline}
use Rattle.grasp_types.specs.declared.message.Message.{Message}
use Rattle.grasp_types.specs.declared.message.Message.TheVariants.{ReqNeg, Negotiate, Wait, End, Invalid}
use Rattle.grasp_session.specs.Conversation.{says, strip, begun, ended, turn, waits, number, requested, newest_offer, Going, Lowers, MayFollow}
use Rattle.grasp_session.specs.Transcript.{Entry, Transcript, side_of, said_of, known, is_over, is_going, is_mine, Saying, SayStep, SayWait, SayEnd, SayInvalid, refusal, act_of, message_of, with_sent, is_good_step, is_awaited, is_negotiation, may_end, receive_going, receive, with_kept}
use Rattle.grasp_session.specs.declared.answer.SessionRefused.{SessionRefused}
use Rattle.grasp_session.specs.declared.answer.SessionRefused.TheVariants.{NotYourTurn, LoopsSpent, WaitsSpent}
use Rattle.grasp_session.specs.declared.answer.Received.TheVariants.{Kept, Ignored, Bad}

pub same_side : (s : Side) → is_side s s ≡ true
same_side Near = refl
same_side Far = refl

pub own_not_other : (s : Side) → is_side s (other s) ≡ false
own_not_other Near = refl
own_not_other Far = refl

pub is_side-true : (s t : Side) → is_side s t ≡ true → t ≡ s
is_side-true Near Near e = refl
is_side-true Near Far e = absurd (false≢true e)
is_side-true Far Near e = absurd (false≢true e)
is_side-true Far Far e = refl

pub is_side-other : (s t : Side) → t ≡ other s → is_side s t ≡ false
is_side-other s t e = rw e (own_not_other s)

pub over_ended : (role : Side) (es : List Entry) → is_over es ≡ false → ended (strip (said_of role es)) ≡ false
over_ended role [] h = refl
over_ended role (e ∷ es) h = by_message e.message h where
  by_message : (m : Message) → is_last m ≡ false → ended (cond (is_invalid m) (strip (said_of role es)) (says (side_of role e.sent) m ∷ strip (said_of role es))) ≡ false
  by_message (End n v) k = absurd (true≢false k)
  by_message (Invalid n d) k = absurd (true≢false k)
  by_message _ k = refl

pub going_parts : (v : Transcript) → is_going v ≡ true → (is_none v.mark ≡ true) × (is_over v.entries ≡ false)
going_parts v g = let p = and_parts (is_none v.mark) (not (is_over v.entries)) g in (p.0, not-true (is_over v.entries) p.1)

pub going_not_ended : (v : Transcript) → is_going v ≡ true → ended (known v) ≡ false
going_not_ended v g = over_ended v.role v.entries (going_parts v g).1

-- what an end sees of a message more
pub known_sent : (v : Transcript) (now : ℕ) (m : Message) (side : Side) → v.role ≡ side → known (with_sent v now m) ≡ cond (is_invalid m) (known v) (says side m ∷ known v)
known_sent v now m side e = ap (λ s. cond (is_invalid m) (known v) (says s m ∷ known v)) e

pub known_kept : (v : Transcript) (now : ℕ) (m : Message) (side : Side) → v.role ≡ side → known (with_kept v now m) ≡ cond (is_invalid m) (known v) (says (other side) m ∷ known v)
known_kept v now m side e = ap (λ s. cond (is_invalid m) (known v) (says (other s) m ∷ known v)) e

-- what an end may say may follow
pub record Allowed (v : Transcript) (m : Message) : Type 0 where
  pub plain : is_invalid m ≡ false
  pub own_turn : turn (known v) ≡ v.role
  pub follows : MayFollow (known v) (says v.role m)

checked_going : (v : Transcript) → begun (known v) ≡ true → is_going v ≡ true → is_mine v ≡ true → Going (known v) v.role (number (known v))
checked_going v b g t = record { has_begun = b; no_end = going_not_ended v g; in_turn = sym (is_side-true v.role (turn (known v)) t); same_number = refl }

pub own_turn_of : (v : Transcript) → is_mine v ≡ true → turn (known v) ≡ v.role
own_turn_of v t = is_side-true v.role (turn (known v)) t

pub fine_turn : (b : Bool) (x : Option SessionRefused) → cond b x (Some NotYourTurn) ≡ None → (b ≡ true) × (x ≡ None)
fine_turn true x e = (refl, e)
fine_turn false x e = absurd (cc)

pub fine_loops : (b : Bool) → cond b None (Some LoopsSpent) ≡ None → b ≡ true
fine_loops true e = refl
fine_loops false e = absurd (cc)

fine_waits : (b : Bool) → cond b None (Some WaitsSpent) ≡ None → b ≡ true
fine_waits true e = refl
fine_waits false e = absurd (cc)

pub checked : (v : Transcript) (s : Saying) → begun (known v) ≡ true → refusal v (act_of s) ≡ None → (is_going v ≡ true) × ((is_invalid (message_of v s) ≡ true) ⊎ Allowed v (message_of v s))
checked v (SayStep value) b e =
    let p = fine_turn (is_going v && is_mine v) (cond (nat_lt 1 (newest_offer (known v)).loops) None (Some LoopsSpent)) e in
    let q = and_parts (is_going v) (is_mine v) p.0 in
    let l : 1 < (newest_offer (known v)).loops = ltb-true 1 (newest_offer (known v)).loops (fine_loops (nat_lt 1 (newest_offer (known v)).loops) p.1) in
    (q.0, inr (record { plain = refl; own_turn = own_turn_of v q.1; follows = (checked_going v b q.0 q.1, record { name = refl; flags = refl; lower = omega arith; some_left = omega arith }) }))
checked v (SayWait millis) b e =
    let p = fine_turn (is_going v && is_mine v) (cond (nat_lt (waits (known v)) 4) None (Some WaitsSpent)) e in
    let q = and_parts (is_going v) (is_mine v) p.0 in
    (q.0, inr (record { plain = refl; own_turn = own_turn_of v q.1; follows = (checked_going v b q.0 q.1, ltb-true (waits (known v)) 4 (fine_waits (nat_lt (waits (known v)) 4) p.1)) }))
checked v (SayEnd verdict) b e =
    let p = fine_turn (is_going v && is_mine v) None e in
    let q = and_parts (is_going v) (is_mine v) p.0 in
    (q.0, inr (record { plain = refl; own_turn = own_turn_of v q.1; follows = checked_going v b q.0 q.1 }))
checked v (SayInvalid detail) b e = ((fine_turn (is_going v) None e).0, inl refl)

-- what may follow is kept
not_mine : (v : Transcript) → other v.role ≡ turn (known v) → is_mine v ≡ false
not_mine v e = is_side-other v.role (turn (known v)) (sym e)

awaited : (v : Transcript) (n : ℕ) → Going (known v) (other v.role) n → is_awaited v n ≡ true
awaited v n g = and_from (n == number (known v)) (not (is_mine v)) (eq-eqb n (number (known v)) g.same_number) (not_from_false (is_mine v) (not_mine v g.in_turn))

good_step : (v : Transcript) (o : Objective) → Lowers (known v) o → is_good_step v o ≡ true
good_step v o l =
    let a = bytes_eq o.name (requested (known v)).name in
    let b = o.flags == (requested (known v)).flags in
    let c = nat_lt 0 o.loops in
    let d = nat_lt o.loops (newest_offer (known v)).loops in
    let below : o.loops < (newest_offer (known v)).loops = omega (arith, l.lower) in
    and_from (a && b && c) d
    (and_from (a && b) c (and_from a b ((bytes_eq-Decides o.name (requested (known v)).name).1 l.name) (eq-eqb o.flags (requested (known v)).flags l.flags)) (lt-ltb 0 o.loops l.some_left))
    (lt-ltb o.loops (newest_offer (known v)).loops below)

may_end_negotiation : (v : Transcript) (d : Verdict) → v.kind ≡ Negotiation → may_end v.kind d ≡ true
may_end_negotiation v Accept k = ap is_negotiation k
may_end_negotiation v (Decline r) k = refl

pub kept_going : (v : Transcript) (m : Message) → v.kind ≡ Negotiation → begun (known v) ≡ true → (is_invalid m ≡ true) ⊎ MayFollow (known v) (says (other v.role) m) → receive_going v m ≡ Kept
kept_going v m kd b (inl e) = by_message m e where
  by_message : (m : Message) → is_invalid m ≡ true → receive_going v m ≡ Kept
  by_message (Invalid n d) e = refl
  by_message _ e = absurd (false≢true e)
kept_going v m kd b (inr f) = by_message m f where
  by_message : (m : Message) → MayFollow (known v) (says (other v.role) m) → receive_going v m ≡ Kept
  by_message (ReqNeg n o) f = absurd (true≢false (sym b ∙ f.0))
  by_message (Negotiate n o) f = cond-true (is_negotiation v.kind && (is_awaited v n && is_good_step v o)) Kept Bad (and_from (is_negotiation v.kind) (is_awaited v n && is_good_step v o) (ap is_negotiation kd) (and_from (is_awaited v n) (is_good_step v o) (awaited v n f.0) (good_step v o f.1)))
  by_message (Wait n t) f = cond-true (is_awaited v n && nat_lt (waits (known v)) 4) Kept Bad (and_from (is_awaited v n) (nat_lt (waits (known v)) 4) (awaited v n f.0) (lt-ltb (waits (known v)) 4 f.1))
  by_message (End n d) f = cond-true (may_end v.kind d && is_awaited v n) Kept Bad (and_from (may_end v.kind d) (is_awaited v n) (may_end_negotiation v d kd) (awaited v n f))
  by_message (Invalid n d) f = absurd f
  by_message m f = absurd f

pub kept : (v : Transcript) (m : Message) → v.kind ≡ Negotiation → begun (known v) ≡ true → is_going v ≡ true → (is_invalid m ≡ true) ⊎ MayFollow (known v) (says (other v.role) m) → receive v m ≡ Kept
kept v m kd b g f = cond-true (is_going v) (receive_going v m) Ignored g ∙ kept_going v m kd b f
