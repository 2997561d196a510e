-- Where an end may accept, its peer has a view.
use Rattle.std.proofs.Common.{None, ◌≡◌, Bool, true, false, cond, ◌&&◌, List, [], ◌∷◌, refl, sym, ap, ◌∙◌, subst}
use Rattle.std.proofs.lemmas.Bool.{false≢true, and_parts}
use Rattle.grasp_session.specs.Messages.{Side, Near, Far, other, is_side, is_invalid}
use Rattle.grasp_types.specs.declared.message.Message.{Message}
use Rattle.grasp_types.specs.declared.message.Message.TheVariants.{ReqNeg, Negotiate, Wait, End, Invalid}
use Rattle.grasp_session.specs.Conversation.{Said, says, strip, begun, turn, MayFollow, IsLegal, spoken}
use Rattle.grasp_session.specs.Transcript.{Transcript, is_going, is_mine}
use Rattle.grasp_session.specs.Talk.{Stage, Absent, Refused, Present, party}
use Rattle.grasp_session.specs.Laws.{PeerIsPresent}
use Rattle.grasp_laws_session.proofs.Views.{fine_turn}
use Rattle.grasp_laws_session.proofs.Sound.{SoundStage, sound_party}
use Rattle.grasp_laws_session.proofs.Ends.{sound, sound_view}
use Rattle.grasp_laws_session.proofs.Turns.{turns_say}

-- a request or a step
abbrev offers : Message → Bool
offers (ReqNeg n o) = true
offers (Negotiate n o) = true
offers _ = false

abbrev some_offer : List Message → Bool
some_offer [] = false
some_offer (m ∷ ms) = cond (offers m) true (some_offer ms)

-- of side s, which has just let the other side speak: it has offered
abbrev Offered : List Said → Type 0
Offered c = begun c ≡ true → some_offer (spoken (other (turn c)) c) ≡ true

passes : (s : Side) (m : Message) (l : List Message) (b : Bool) → offers m ≡ false → some_offer l ≡ true → some_offer (cond b (m ∷ l) l) ≡ true
passes s m l true e h = rw e h
passes s m l false e h = h

offered_on : (s : Side) (m : Message) (c : List Said) → MayFollow c (says s m) → Offered c → Offered (says s m ∷ c)
offered_on Near (ReqNeg n o) c f h b = refl
offered_on Far (ReqNeg n o) c f h b = absurd (far_near f.1) where
  far_near : Far ≡ Near → ⊥
  far_near e = cc
offered_on s (Negotiate n o) c f h b = by_side s (turn c) f.0.in_turn where
  by_side : (s t : Side) → s ≡ t → some_offer (spoken (other (other t)) (says s (Negotiate n o) ∷ c)) ≡ true
  by_side Near Near e = refl
  by_side Near Far e = absurd (cc)
  by_side Far Near e = absurd (cc)
  by_side Far Far e = refl
offered_on s (Wait n t) c f h b = passes s (Wait n t) (spoken (other (turn c)) c) (is_side (other (turn c)) s) refl (h f.0.has_begun)
offered_on s (End n v) c f h b = passes s (End n v) (spoken (other (turn c)) c) (is_side (other (turn c)) s) refl (h f.has_begun)
offered_on s (Invalid n d) c f h b = absurd f
offered_on s m c f h b = absurd f

offered : (c : List Said) → IsLegal c → Offered c
offered [] l b = absurd (false≢true b)
offered (x ∷ c) l b = offered_on x.side x.message c l.0 (offered c l.1) b

-- invalid messages don't matter for that
both_offer : (b : Bool) (m : Message) (l k : List Message) → some_offer l ≡ some_offer k → some_offer (cond b (m ∷ l) l) ≡ some_offer (cond b (m ∷ k) k)
both_offer true m l k h = ap (λ x. cond (offers m) true x) h
both_offer false m l k h = h

invalid_offer : (b : Bool) (m : Message) (l k : List Message) → offers m ≡ false → some_offer l ≡ some_offer k → some_offer l ≡ some_offer (cond b (m ∷ k) k)
invalid_offer true m l k e h = rw e h
invalid_offer false m l k e h = h

offer_on : (side s : Side) (m : Message) (c d : List Said) → some_offer (spoken side c) ≡ some_offer (spoken side d)
    → some_offer (spoken side (cond (is_invalid m) c (says s m ∷ c))) ≡ some_offer (spoken side (says s m ∷ d))
offer_on side s (ReqNeg n o) c d h = both_offer (is_side side s) (ReqNeg n o) (spoken side c) (spoken side d) h
offer_on side s (Negotiate n o) c d h = both_offer (is_side side s) (Negotiate n o) (spoken side c) (spoken side d) h
offer_on side s (Wait n t) c d h = both_offer (is_side side s) (Wait n t) (spoken side c) (spoken side d) h
offer_on side s (End n v) c d h = both_offer (is_side side s) (End n v) (spoken side c) (spoken side d) h
offer_on side s (Invalid n v) c d h = invalid_offer (is_side side s) (Invalid n v) (spoken side c) (spoken side d) refl h
offer_on side s m c d h = both_offer (is_side side s) m (spoken side c) (spoken side d) h

stripped_offer : (side : Side) (said : List Said) → some_offer (spoken side (strip said)) ≡ some_offer (spoken side said)
stripped_offer side [] = refl
stripped_offer side (x ∷ said) = offer_on side x.side x.message (strip said) said (stripped_offer side said)

-- a side that has offered has a view
by_stage : (side : Side) (inbox : List Message) (said : List Said) (stage : Stage) → SoundStage side inbox said stage → some_offer (spoken side said) ≡ true → (w : Transcript) × (stage ≡ Present w)
by_stage side inbox said Absent s o = absurd (false≢true (sym (ap some_offer s.own) ∙ o))
by_stage side inbox said Refused s o = absurd (false≢true (sym (ap some_offer s.own) ∙ o))
by_stage side inbox said (Present w) s o = (w, refl)

pub peer_is_present : PeerIsPresent
peer_is_present t r side v e fine =
    let s = sound_view t r side v e in
    let p = fine_turn (is_going v && is_mine v) None fine in
    let q = and_parts (is_going v) (is_mine v) p.0 in
    let k = turns_say t r side v e q.0 q.1 in
    let o : some_offer (spoken (other side) (strip t.said)) ≡ true =
    subst (λ x. some_offer (spoken (other x) (strip t.said)) ≡ true) k.its_turn (offered (strip t.said) (sound t r).legal (sym (ap begun k.whole) ∙ s.has_begun)) in
    by_stage (other side) (party t (other side)).inbox t.said (party t (other side)).stage (sound_party t (other side) (sound t r))
    (sym (stripped_offer (other side) t.said) ∙ o)
