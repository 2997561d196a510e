-- While an end knows that the turn is its own, it learns nothing until it says something.
use Rattle.std.proofs.Common.{◌≡◌, ◌≢◌, ℕ, ◌≤◌, Bool, true, false, cond, List, [], ◌∷◌, length, ◌⊎◌, inl, inr, Some, refl, sym, ap, ◌∙◌, subst, arith}
use Rattle.grasp_types.specs.declared.message.Message.{Message}
use Rattle.grasp_session.proofs.Facts.{hears_other, marks_other, says_at_other, opens_near, refuses_near, requests_far}
use Rattle.grasp_session.specs.declared.answer.Received.{Received}
use Rattle.grasp_session.specs.declared.answer.Received.TheVariants.{Kept, Ignored, Bad}
use Rattle.grasp_session.specs.Messages.{Side, Near, Far, other, is_invalid}
use Rattle.grasp_session.specs.Conversation.{Said, says, strip, turn, Trails}
use Rattle.grasp_session.specs.Transcript.{Mark, Transcript, known, is_going, with_mark, receive, after_heard}
use Rattle.grasp_session.specs.Talk.{Cause, mark_of, Stage, Absent, Refused, Present, Talk, party, Move, Requests, OpensFar, RefusesFar, Says, Hears, Marks, opens, hears_next, marks_at, moved}
use Rattle.grasp_laws_session.specs.Turns.{said_by, KnownHolds}
use Rattle.grasp_laws_session.proofs.Trailing.{still_whole}
use Rattle.grasp_laws_session.proofs.Ends.{sound, sound_view}
use Rattle.grasp_laws_session.proofs.Reaching.{move_reaches}
use Rattle.grasp_laws_session.proofs.Turns.{turns_hold}

-- a transcript that knows the same, or one message more
abbrev Next : Transcript → Stage → Type 0
Next v Absent = ⊥
Next v Refused = ⊥
Next v (Present w) = (known w ≡ known v) ⊎ ((x : Said) × (known w ≡ x ∷ known v))

stays_next : (v : Transcript) (stage : Stage) → stage ≡ Present v → Next v stage
stays_next v stage e = subst (Next v) (sym e) (inl refl)

-- ---- what this side hears, and how it is marked

plain_next : (v : Transcript) (side : Side) (m : Message) (b : Bool)
    → (cond b (known v) (says side m ∷ known v) ≡ known v) ⊎ ((x : Said) × (cond b (known v) (says side m ∷ known v) ≡ x ∷ known v))
plain_next v side m true = inl refl
plain_next v side m false = inr (says side m, refl)

heard_next : (v : Transcript) (now : ℕ) (m : Message) (k : Received) → Next v (Present (after_heard v now m k))
heard_next v now m Kept = plain_next v (other v.role) m (is_invalid m)
heard_next v now m Ignored = inl refl
heard_next v now m Bad = inl refl

marked_next : (v : Transcript) (mark : Mark) (b : Bool) → Next v (Present (cond b (with_mark v mark) v))
marked_next v mark true = inl refl
marked_next v mark false = inl refl

hears_here : (t : Talk) (side : Side) (now : ℕ) (v : Transcript) (inbox : List Message) → (party t side).stage ≡ Present v
    → Next v (party (hears_next t side now (Present v) inbox) side).stage
hears_here t side now v [] e = stays_next v (party t side).stage e
hears_here t Near now v (m ∷ left) e = heard_next v now m (receive v m)
hears_here t Far now v (m ∷ left) e = heard_next v now m (receive v m)

marks_here : (t : Talk) (side : Side) (cause : Cause) (v : Transcript) → Next v (party (marks_at t side cause (Present v)) side).stage
marks_here t Near cause v = marked_next v (mark_of cause) (is_going v)
marks_here t Far cause v = marked_next v (mark_of cause) (is_going v)

-- ---- each move

next : (t : Talk) (m : Move) (side : Side) (v : Transcript) → (party t side).stage ≡ Present v → said_by m ≢ Some side → Next v (party (moved t m) side).stage
next t (Requests now timeout session o) Far v e out = stays_next v _ (requests_far t now timeout session o t.near.stage ∙ e)
next t (OpensFar now timeout) Near v e out = stays_next v _ (opens_near t now timeout t.far.stage ∙ e)
next t (OpensFar now timeout) Far v e out = stays_next v _ (ap (λ (s : Stage). (opens t now timeout s).far.stage) e ∙ e)
next t (RefusesFar reason) Near v e out = stays_next v _ (refuses_near t reason t.far.stage ∙ e)
next t (Says Near now sg) Far v e out = stays_next v _ (says_at_other t Near now sg t.near.stage ∙ e)
next t (Says Far now sg) Near v e out = stays_next v _ (says_at_other t Far now sg t.far.stage ∙ e)
next t (Hears Near now) Near v e out =
    subst (λ (s : Stage). Next v (hears_next t Near now s t.near.inbox).near.stage) (sym e) (hears_here t Near now v t.near.inbox e)
next t (Hears Near now) Far v e out = stays_next v _ (hears_other t Near now t.near.stage t.near.inbox ∙ e)
next t (Hears Far now) Near v e out = stays_next v _ (hears_other t Far now t.far.stage t.far.inbox ∙ e)
next t (Hears Far now) Far v e out =
    subst (λ (s : Stage). Next v (hears_next t Far now s t.far.inbox).far.stage) (sym e) (hears_here t Far now v t.far.inbox e)
next t (Marks Near cause) Near v e out = subst (λ (s : Stage). Next v (marks_at t Near cause s).near.stage) (sym e) (marks_here t Near cause v)
next t (Marks Near cause) Far v e out = stays_next v _ (marks_other t Near cause t.near.stage ∙ e)
next t (Marks Far cause) Near v e out = stays_next v _ (marks_other t Far cause t.far.stage ∙ e)
next t (Marks Far cause) Far v e out = subst (λ (s : Stage). Next v (marks_at t Far cause s).far.stage) (sym e) (marks_here t Far cause v)
next t _ _ v e out = absurd (out refl)

-- ---- it is the same

trails_length : (side : Side) (v c : List Said) → Trails side v c → length v ≤ length c
trails_length side v [] t = let e : length v ≡ 0 = ap length t in omega (arith, e)
trails_length side v (x ∷ c) (inl e) = let f : length v ≡ length (x ∷ c) = ap length e in omega (arith, f)
trails_length side v (x ∷ c) (inr t) = let k : length v ≤ length c = trails_length side v c t.1 in omega (arith, k)

not_longer : (side : Side) (x : Said) (c d : List Said) → d ≡ x ∷ c → Trails side d c → ⊥
not_longer side x c d e t =
    let k : length d ≤ length c = trails_length side d c t in
    let f : length d ≡ length (x ∷ c) = ap length e in
    omega (arith, k, f)

known_same : (side : Side) (v w : Transcript) → Trails side (known w) (known v) → Next v (Present w) → known w ≡ known v
known_same side v w t (inl e) = e
known_same side v w t (inr p) = absurd (not_longer side p.0 (known v) (known w) p.1 t)

pub known_holds : KnownHolds
known_holds t r m side v w e f mine out =
    let whole : known v ≡ strip t.said = still_whole side (known v) (strip t.said) (sound t r).legal (sound_view t r side v e).trails (inl mine) in
    let here : turn (strip t.said) ≡ side = sym (ap turn whole) ∙ mine in
    let same : strip (moved t m).said ≡ known v = turns_hold t r m side here out ∙ sym whole in
    let trails : Trails side (known w) (known v) = subst (Trails side (known w)) same (sound_view (moved t m) (move_reaches t m r) side w f).trails in
    known_same side v w trails (subst (Next v) f (next t m side v e out))
