-- A view that trails the conversation.
use Rattle.std.proofs.Common.{◌≡◌, true, List, [], ◌∷◌, ◌⊎◌, inl, inr, refl, sym, ◌∙◌, subst}
use Rattle.std.proofs.lemmas.Bool.{true≢false}
use Rattle.grasp_session.specs.Messages.{Side, other}
use Rattle.grasp_session.specs.Conversation.{Said, ended, turn, MayFollow, IsLegal, Trails}
use Rattle.grasp_laws_session.proofs.Follows.{not_other, follows_turn, follows_open}

-- the turn is this side's, or the talk is over: the other side can't have said more
abbrev pub IsStill : Side → List Said → Type 0
IsStill side v = (turn v ≡ side) ⊎ (ended v ≡ true)

pub still_stops : (side : Side) (v : List Said) (x : Said) → IsStill side v → x.side ≡ other side → MayFollow v x → ⊥
still_stops side v x (inl t) e f = not_other x.side side e (follows_turn v x.side x.message f ∙ t)
still_stops side v x (inr t) e f = true≢false (sym t ∙ follows_open v x.side x.message f)

pub trails_same : (side : Side) (v : List Said) → Trails side v v
trails_same side [] = refl
trails_same side (x ∷ v) = inl refl

pub trails_eq : (side : Side) (v c : List Said) → v ≡ c → Trails side v c
trails_eq side v c e = subst (λ (w : List Said). Trails side w c) (sym e) (trails_same side c)

-- the tail of what trails
tail_eq : (side : Side) (x y : Said) (v c : List Said) → x ∷ v ≡ y ∷ c → x.side ≡ other side → (y.side ≡ other side) × Trails side v c
tail_eq side x y v c e h = let same : x ≡ y = cc in let rest : v ≡ c = cc in (subst (λ (z : Said). z.side ≡ other side) same h, trails_eq side v c rest)

pub trails_tail : (side : Side) (x : Said) (v c : List Said) → x.side ≡ other side → Trails side (x ∷ v) c → Trails side v c
trails_tail side x v [] h t = absurd (cc)
trails_tail side x v (y ∷ c) h (inl e) = inr (tail_eq side x y v c e h)
trails_tail side x v (y ∷ c) h (inr t) = inr (t.0, trails_tail side x v c h t.1)

-- where the turn is the view's own, or the talk is over in it, the view is the whole
pub still_whole : (side : Side) (v c : List Said) → IsLegal c → Trails side v c → IsStill side v → v ≡ c
still_whole side v [] h t s = t
still_whole side v (x ∷ c) h (inl e) s = e
still_whole side v (x ∷ c) h (inr t) s =
    let same : v ≡ c = still_whole side v c h.1 t.1 s in
    absurd (still_stops side c x (subst (IsStill side) same s) t.0 h.0)

-- an earlier part of a legal conversation is legal
pub trails_legal : (side : Side) (v c : List Said) → IsLegal c → Trails side v c → IsLegal v
trails_legal side v [] h t = subst IsLegal (sym t) tt
trails_legal side v (x ∷ c) h (inl e) = subst IsLegal (sym e) h
trails_legal side v (x ∷ c) h (inr t) = trails_legal side v c h.1 t.1
