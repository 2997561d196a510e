-- The steps of a view, whatever its peer sends.
use Rattle.std.proofs.Common.{Some, Option, None, ◌≡◌, ℕ, ◌+◌, ◌-◌, ◌<◌, ◌≤◌, Bool, true, false, cond, ◌&&◌, List, [], ◌∷◌, ◌⊎◌, inl, inr, refl, ap, arith, nat_lt, ◌==◌}
use Rattle.std.proofs.lemmas.Bool.{and_parts, ltb-true}
use Rattle.std.specs.Str.{bytes_eq}
use Rattle.grasp_session.proofs.Facts.{kept_test}
use Rattle.grasp_session.specs.Messages.{Side, other}
use Rattle.grasp_types.specs.declared.objective.Objective.{Objective}
use Rattle.grasp_types.specs.declared.message.Message.{Message}
use Rattle.grasp_types.specs.declared.message.Message.TheVariants.{Synch, ReqNeg, Negotiate, Wait, End, Invalid}
use Rattle.grasp_session.specs.Conversation.{Said, says, steps, number, requested, newest_offer}
use Rattle.grasp_session.specs.Transcript.{Mark, Transcript, known, is_going, is_mine, opening, Saying, SayStep, SayWait, SayEnd, SayInvalid, refusal, act_of, message_of, with_sent, after_said, is_good_step, is_awaited, is_negotiation, receive_going, receive, with_kept, after_heard, with_mark, marked, Deed, Does, Gets, Suffers, after_deed, after_deeds}
use Rattle.grasp_session.specs.declared.answer.SessionRefused.{SessionRefused}
use Rattle.grasp_session.specs.declared.answer.SessionRefused.TheVariants.{LoopsSpent}
use Rattle.grasp_session.specs.declared.answer.Received.{Received}
use Rattle.grasp_session.specs.declared.answer.Received.TheVariants.{Kept, Ignored, Bad}
use Rattle.grasp_session.specs.Laws.{IsBounded}
use Rattle.grasp_laws_session.proofs.Views.{fine_turn, fine_loops}
use Rattle.grasp_types.specs.declared.session.Kind.TheVariants.{Negotiation, Synchronization}
use Rattle.grasp_types.specs.declared.session.Kind.{Kind}

-- each step took the loop count down
pub record Falls (loops : ℕ) (c : List Said) : Type 0 where
  pub sum : steps c + (newest_offer c).loops ≤ loops
  pub some : (steps c ≡ 0) ⊎ (1 ≤ (newest_offer c).loops)

pub falls_bounded : (loops : ℕ) (c : List Said) → Falls loops c → IsBounded loops c
falls_bounded loops c h = record { below = λ p. omega (arith, h.sum, h.some, p); none = λ e. omega (arith, h.sum, h.some, e) }

falls_same : (loops : ℕ) (c d : List Said) → steps d ≡ steps c → newest_offer d ≡ newest_offer c → Falls loops c → Falls loops d
falls_same loops c d e f h = let g : (newest_offer d).loops ≡ (newest_offer c).loops = ap (λ (o : Objective). o.loops) f in record { sum = omega (arith, h.sum, e, g); some = rw (e, g) h.some }

falls_step : (loops : ℕ) (c : List Said) (s : Side) (n : ℕ) (o : Objective) → 0 < o.loops → o.loops < (newest_offer c).loops → Falls loops c → Falls loops (says s (Negotiate n o) ∷ c)
falls_step loops c s n o p q h = record { sum = omega (arith, h.sum, p, q); some = inr p }

pub falls_said : (loops : ℕ) (v : Transcript) (now : ℕ) (s : Saying) → refusal v (act_of s) ≡ None → Falls loops (known v) → Falls loops (known (with_sent v now (message_of v s)))
falls_said loops v now (SayStep value) e h =
    let p = fine_turn (is_going v && is_mine v) (cond (nat_lt 1 (newest_offer (known v)).loops) None (Some LoopsSpent)) e in
    let l : 1 < (newest_offer (known v)).loops = ltb-true 1 (newest_offer (known v)).loops (fine_loops (nat_lt 1 (newest_offer (known v)).loops) p.1) in
    falls_step loops (known v) v.role (number (known v)) (record { name = (requested (known v)).name; flags = (requested (known v)).flags; loops = (newest_offer (known v)).loops - 1; value = Some value }) (omega arith) (omega arith) h
falls_said loops v now (SayWait millis) e h = falls_same loops (known v) (says v.role (Wait (number (known v)) millis) ∷ known v) refl refl h
falls_said loops v now (SayEnd verdict) e h = falls_same loops (known v) (says v.role (End (number (known v)) verdict) ∷ known v) refl refl h
falls_said loops v now (SayInvalid detail) e h = h

falls_after_said : (loops : ℕ) (v : Transcript) (now : ℕ) (s : Saying) (c : Option SessionRefused) → refusal v (act_of s) ≡ c → Falls loops (known v) → Falls loops (known (after_said v now s c))
falls_after_said loops v now s None e h = falls_said loops v now s e h
falls_after_said loops v now s (Some refused) e h = h

pub going_test : (b : Bool) (r : Received) → cond b r Ignored ≡ Kept → r ≡ Kept
going_test true r e = e
going_test false r e = absurd (cc)

pub falls_kept : (loops : ℕ) (v : Transcript) (now : ℕ) (m : Message) → receive_going v m ≡ Kept → Falls loops (known v) → Falls loops (known (with_kept v now m))
falls_kept loops v now (ReqNeg n o) e h = absurd (cc)
falls_kept loops v now (Negotiate n o) e h =
    let a = bytes_eq o.name (requested (known v)).name in
    let b = o.flags == (requested (known v)).flags in
    let c = nat_lt 0 o.loops in
    let d = nat_lt o.loops (newest_offer (known v)).loops in
    let k = and_parts (is_negotiation v.kind) (is_awaited v n && is_good_step v o) (kept_test (is_negotiation v.kind && (is_awaited v n && is_good_step v o)) e) in
    let p = and_parts (is_awaited v n) (is_good_step v o) k.1 in
    let q = and_parts (a && b && c) d p.1 in
    let r = and_parts (a && b) c q.0 in
    falls_step loops (known v) (other v.role) n o (ltb-true 0 o.loops r.1) (ltb-true o.loops (newest_offer (known v)).loops q.1) h
falls_kept loops v now (Wait n t) e h = falls_same loops (known v) (says (other v.role) (Wait n t) ∷ known v) refl refl h
falls_kept loops v now (End n d) e h = falls_same loops (known v) (says (other v.role) (End n d) ∷ known v) refl refl h
falls_kept loops v now (Invalid n d) e h = h
falls_kept loops v now (Synch n o) e h = falls_same loops (known v) (says (other v.role) (Synch n o) ∷ known v) refl refl h
falls_kept loops v now m e h = absurd (cc)

falls_after_heard : (loops : ℕ) (v : Transcript) (now : ℕ) (m : Message) (r : Received) → receive v m ≡ r → Falls loops (known v) → Falls loops (known (after_heard v now m r))
falls_after_heard loops v now m Kept e h = falls_kept loops v now m (going_test (is_going v) (receive_going v m) e) h
falls_after_heard loops v now m Ignored e h = h
falls_after_heard loops v now m Bad e h = h

falls_marked : (loops : ℕ) (v : Transcript) (mark : Mark) → Falls loops (known v) → Falls loops (known (marked v mark))
falls_marked loops v mark h = by_test (is_going v) where
  by_test : (b : Bool) → Falls loops (known (cond b (with_mark v mark) v))
  by_test true = h
  by_test false = h

falls_deed : (loops : ℕ) (v : Transcript) (d : Deed) → Falls loops (known v) → Falls loops (known (after_deed v d))
falls_deed loops v (Does now s) h = falls_after_said loops v now s (refusal v (act_of s)) refl h
falls_deed loops v (Gets now m) h = falls_after_heard loops v now m (receive v m) refl h
falls_deed loops v (Suffers mark) h = falls_marked loops v mark h

falls_deeds : (loops : ℕ) (v : Transcript) (ds : List Deed) → Falls loops (known v) → Falls loops (known (after_deeds v ds))
falls_deeds loops v [] h = h
falls_deeds loops v (d ∷ ds) h = falls_deeds loops (after_deed v d) ds (falls_deed loops v d h)

pub falls_opening : (kind : Kind) (role : Side) (timeout now session : ℕ) (o : Objective) → Falls o.loops (known (opening kind role timeout now session o))
falls_opening Negotiation role timeout now session o = record { sum = omega arith; some = inl refl }
falls_opening Synchronization role timeout now session o = record { sum = omega arith; some = inl refl }

pub view_bounded : (kind : Kind) (role : Side) (timeout now session : ℕ) (o : Objective) (deeds : List Deed) → IsBounded o.loops (known (after_deeds (opening kind role timeout now session o) deeds))
view_bounded kind role timeout now session o deeds =
    falls_bounded o.loops (known (after_deeds (opening kind role timeout now session o) deeds))
    (falls_deeds o.loops (opening kind role timeout now session o) deeds (falls_opening kind role timeout now session o))
