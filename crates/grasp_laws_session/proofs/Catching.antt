-- What an end has not taken yet.
use Rattle.std.proofs.Common.{◌≡◌, false, cond, List, [], ◌∷◌, ◌++◌, refl}
use Rattle.grasp_session.specs.Messages.{Side, other, is_invalid}
use Rattle.grasp_types.specs.declared.message.Message.{Message}
use Rattle.grasp_types.specs.declared.message.Message.TheVariants.{ReqNeg, Negotiate, Wait, End, Invalid}
use Rattle.grasp_session.specs.Conversation.{Said, says, MayFollow, IsLegal, Trails}
use Rattle.grasp_laws_session.proofs.Trailing.{IsStill, still_stops, trails_same, trails_tail}

-- a conversation to which these messages of this side, oldest first, are added one after the other, but for invalid ones
abbrev pub put : Side → List Said → List Message → List Said
put from v [] = v
put from v (m ∷ ms) = put from (cond (is_invalid m) v (says from m ∷ v)) ms

pub put_legal : (from : Side) (ms : List Message) (v : List Said) → IsLegal (put from v ms) → IsLegal v
put_legal from [] v h = h
put_legal from (m ∷ ms) v h = drop_one m (put_legal from ms _ h) where
  drop_one : (m : Message) → IsLegal (cond (is_invalid m) v (says from m ∷ v)) → IsLegal v
  drop_one (Invalid n d) k = k
  drop_one _ k = k.1

-- the first of them may follow
pub put_follows : (from : Side) (m : Message) (ms : List Message) (v : List Said) → is_invalid m ≡ false → IsLegal (put from v (m ∷ ms)) → MayFollow v (says from m)
put_follows from m ms v e h =
    let k : IsLegal (cond (is_invalid m) v (says from m ∷ v)) = put_legal from ms (cond (is_invalid m) v (says from m ∷ v)) h in
    let l : IsLegal (says from m ∷ v) = rw e at k in l.0

pub put_trails : (side : Side) (ms : List Message) (v : List Said) → Trails side v (put (other side) v ms)
put_trails side [] v = trails_same side v
put_trails side (m ∷ ms) v = drop_one m (put_trails side ms (cond (is_invalid m) v (says (other side) m ∷ v))) where
  c : List Said
  c = put (other side) (cond (is_invalid m) v (says (other side) m ∷ v)) ms

  drop_one : (b : Message) → Trails side (cond (is_invalid b) v (says (other side) b ∷ v)) c → Trails side v c
  drop_one (ReqNeg n o) k = trails_tail side (says (other side) (ReqNeg n o)) v c refl k
  drop_one (Negotiate n o) k = trails_tail side (says (other side) (Negotiate n o)) v c refl k
  drop_one (Wait n t) k = trails_tail side (says (other side) (Wait n t)) v c refl k
  drop_one (End n d) k = trails_tail side (says (other side) (End n d)) v c refl k
  drop_one (Invalid n d) k = k
  drop_one m k = trails_tail side (says (other side) m) v c refl k

-- one more at the end
pub put_more : (from : Side) (ms : List Message) (m : Message) (v : List Said) → put from v (ms ++ m ∷ []) ≡ cond (is_invalid m) (put from v ms) (says from m ∷ put from v ms)
put_more from [] m v = refl
put_more from (x ∷ ms) m v = put_more from ms m (cond (is_invalid x) v (says from x ∷ v))

-- where this side's turn is, or the talk is over, no_objective is left but invalid messages
pub put_still : (side : Side) (ms : List Message) (v w : List Said) → IsStill side v → IsLegal (put (other side) v ms) → put (other side) w ms ≡ w
put_still side [] v w s h = refl
put_still side (ReqNeg n o ∷ ms) v w s h = absurd (still_stops side v (says (other side) (ReqNeg n o)) s refl (put_follows (other side) (ReqNeg n o) ms v refl h))
put_still side (Negotiate n o ∷ ms) v w s h = absurd (still_stops side v (says (other side) (Negotiate n o)) s refl (put_follows (other side) (Negotiate n o) ms v refl h))
put_still side (Wait n t ∷ ms) v w s h = absurd (still_stops side v (says (other side) (Wait n t)) s refl (put_follows (other side) (Wait n t) ms v refl h))
put_still side (End n d ∷ ms) v w s h = absurd (still_stops side v (says (other side) (End n d)) s refl (put_follows (other side) (End n d) ms v refl h))
put_still side (Invalid n d ∷ ms) v w s h = put_still side ms v w s h
put_still side (m ∷ ms) v w s h = absurd (still_stops side v (says (other side) m) s refl (put_follows (other side) m ms v refl h))
