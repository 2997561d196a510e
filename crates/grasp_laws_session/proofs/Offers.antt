-- The offers of a side, in what trails.
use Rattle.std.proofs.Common.{◌≡◌, Bool, true, false, cond, ◌&&◌, List, [], ◌∷◌, ◌⊎◌, inl, inr, refl, sym, ap, ◌∙◌, subst}
use Rattle.std.proofs.lemmas.Bool.{false≢true, true≢false, cond-false, and_parts, or_right}
use Rattle.grasp_session.specs.Messages.{Side, Near, Far, other, is_side, is_end, is_acceptance}
use Rattle.grasp_types.specs.declared.message.Message.{Message}
use Rattle.grasp_types.specs.declared.message.Message.TheVariants.{ReqNeg, Negotiate, Wait, End, Invalid}
use Rattle.grasp_session.specs.Conversation.{Said, says, begun, ended, turn, accepted_by, has_offered, offer_in, newest_offer_by, answered, MayFollow, IsLegal, Trails}
use Rattle.grasp_laws_session.proofs.Follows.{other_other, follows_turn, follows_open}
use Rattle.grasp_laws_session.proofs.Views.{same_side, is_side-true, is_side-other}

pub trails_offer : (side : Side) (v c : List Said) → Trails side v c → newest_offer_by side v ≡ newest_offer_by side c
trails_offer side v [] t = ap (newest_offer_by side) t
trails_offer side v (x ∷ c) (inl e) = ap (newest_offer_by side) e
trails_offer side v (x ∷ c) (inr t) =
    trails_offer side v c t.1 ∙ sym (cond-false (is_side side x.side) (offer_in x.message (newest_offer_by side c)) (newest_offer_by side c) (is_side-other side x.side t.0))

-- where an answer of the other side was added, it may be missing from what trails
answer_less : (side : Side) (m : Message) (c : List Said) → answered side (says (other side) m ∷ c) ≡ false → answered side c ≡ false
answer_less Near (Negotiate n o) c e = absurd (true≢false e)
answer_less Near (End n d) c e = absurd (true≢false e)
answer_less Far (Negotiate n o) c e = absurd (true≢false e)
answer_less Far (End n d) c e = absurd (true≢false e)
answer_less _ _ c e = e

pub trails_unanswered : (side : Side) (v c : List Said) → Trails side v c → answered side c ≡ false → answered side v ≡ false
trails_unanswered side v [] t h = ap (answered side) t ∙ h
trails_unanswered side v (x ∷ c) (inl e) h = ap (answered side) e ∙ h
trails_unanswered side v (x ∷ c) (inr t) h =
    trails_unanswered side v c t.1 (answer_less side x.message c (subst (λ s. answered side (says s x.message ∷ c) ≡ false) t.0 h))

other_turn : (s t : Side) → other t ≡ other s → t ≡ s
other_turn s t e = sym (other_other t) ∙ (ap other e ∙ other_other s)

far_other : (s : Side) → Far ≡ other s → s ≡ Near
far_other Near e = refl
far_other Far e = absurd (cc)

-- where the other side may answer, it hasn't
unanswered_step : (side : Side) (s : Side) (m : Message) (c : List Said) → MayFollow c (says s m) → turn (says s m ∷ c) ≡ other side → ended (says s m ∷ c) ≡ false
    → (turn c ≡ other side → ended c ≡ false → answered side c ≡ false) → answered side (says s m ∷ c) ≡ false
unanswered_step side s (ReqNeg n o) c f t e h = let near : side ≡ Near = far_other side t in let same : s ≡ side = f.1 ∙ sym near in rw (same, same_side side)
unanswered_step side s (Negotiate n o) c f t e h = let same : s ≡ side = f.0.in_turn ∙ other_turn side (turn c) t in rw (same, same_side side)
unanswered_step side s (Wait n k) c f t e h = let r : answered side c ≡ false = h t f.0.no_end in either (is_side side s) r where
  either : (b : Bool) → answered side c ≡ false → cond b (answered side c) (answered side c) ≡ false
  either true r = r
  either false r = r
unanswered_step side s (End n d) c f t e h = absurd (true≢false e)
unanswered_step side s (Invalid n d) c f t e h = absurd f
unanswered_step side s m c f t e h = absurd f

pub turn_unanswered : (side : Side) (c : List Said) → IsLegal c → turn c ≡ other side → ended c ≡ false → answered side c ≡ false
turn_unanswered side [] l t e = refl
turn_unanswered side (x ∷ c) l t e = unanswered_step side x.side x.message c l.0 t e (turn_unanswered side c l.1)

acceptance_unanswered : (side s : Side) (m : Message) (c : List Said) → MayFollow c (says s m) → s ≡ other side → IsLegal c → answered side c ≡ false
acceptance_unanswered side s m c f e l = turn_unanswered side c l (sym (follows_turn c s m f) ∙ e) (follows_open c s m f)

-- after an acceptance of the other side
pub accepted_trails : (side : Side) (v c : List Said) → IsLegal c → Trails side v c → accepted_by (other side) c ≡ true → (v ≡ c) ⊎ (answered side v ≡ false)
accepted_trails side v [] l t a = absurd (false≢true a)
accepted_trails side v (x ∷ c) l (inl e) a = inl e
accepted_trails side v (x ∷ c) l (inr t) a =
    inr (trails_unanswered side v c t.1 (acceptance_unanswered side x.side x.message c l.0 t.0 l.1))

-- an acceptance is an end
acceptance_ends : (m : Message) → is_acceptance m ≡ true → is_end m ≡ true
acceptance_ends (End n d) a = refl
acceptance_ends _ a = absurd (false≢true a)

pub accepted_ended : (side : Side) (c : List Said) → accepted_by side c ≡ true → ended c ≡ true
accepted_ended side [] a = absurd (false≢true a)
accepted_ended side (x ∷ c) a = acceptance_ends x.message (and_parts (is_side side x.side) (is_acceptance x.message) a).1

-- the side whose turn it isn't has offered
offered_step : (s : Side) (m : Message) (c : List Said) → MayFollow c (says s m) → (begun c ≡ true → has_offered (other (turn c)) c ≡ true) → has_offered (other (turn (says s m ∷ c))) (says s m ∷ c) ≡ true
offered_step s (ReqNeg n o) c f h = rw f.1 refl
offered_step s (Negotiate n o) c f h = let same : s ≡ turn c = f.0.in_turn in rw (same, other_other (turn c), same_side (turn c)) refl
offered_step s (Wait n t) c f h = or_right (is_side (other (turn c)) s && false) (has_offered (other (turn c)) c) (h f.0.has_begun)
offered_step s (End n d) c f h = or_right (is_side (other (turn c)) s && false) (has_offered (other (turn c)) c) (h f.has_begun)
offered_step s (Invalid n d) c f h = absurd f
offered_step s m c f h = absurd f

pub turn_offered : (c : List Said) → IsLegal c → begun c ≡ true → has_offered (other (turn c)) c ≡ true
turn_offered [] l b = absurd (false≢true b)
turn_offered (x ∷ c) l b = offered_step x.side x.message c l.0 (turn_offered c l.1)

-- an acceptance leaves the turn
acceptance_turn : (s : Side) (m : Message) (c : List Said) → is_acceptance m ≡ true → turn (says s m ∷ c) ≡ turn c
acceptance_turn s (Wait n t) c a = refl
acceptance_turn s (End n d) c a = refl
acceptance_turn s (Invalid n d) c a = refl
acceptance_turn s _ c a = absurd (false≢true a)

-- where a side accepts, the other side has offered
pub accepted_made : (side : Side) (c : List Said) → IsLegal c → accepted_by side c ≡ true → has_offered (other side) c ≡ true
accepted_made side [] l a = absurd (false≢true a)
accepted_made side (x ∷ c) l a =
    let p = and_parts (is_side side x.side) (is_acceptance x.message) a in
    let t : turn (x ∷ c) ≡ side = acceptance_turn x.side x.message c p.1 ∙ (sym (follows_turn c x.side x.message l.0) ∙ is_side-true side x.side p.0) in
    subst (λ s. has_offered (other s) (x ∷ c) ≡ true) t (turn_offered (x ∷ c) l refl)
