-- What may follow a talk, and what a legal talk is like.
use Rattle.std.proofs.Common.{◌≡◌, ◌+◌, ◌≤◌, false, List, [], ◌∷◌, ◌⊎◌, inl, inr, refl, sym, ap, ◌∙◌, arith}
use Rattle.grasp_session.specs.Messages.{Side, Near, Far, other}
use Rattle.grasp_types.specs.declared.message.Message.{Message}
use Rattle.grasp_types.specs.declared.message.Message.TheVariants.{ReqNeg, Negotiate, Wait, End, Invalid}
use Rattle.grasp_session.specs.Conversation.{Said, says, begun, ended, turn, steps, requested, newest_offer, MayFollow, IsLegal}
use Rattle.grasp_session.specs.Laws.{IsBounded}

-- no side is the other one
pub not_other : (s t : Side) → s ≡ other t → s ≡ t → ⊥
not_other Near Near e f = cc
not_other Near Far e f = cc
not_other Far Near e f = cc
not_other Far Far e f = cc

pub other_other : (s : Side) → other (other s) ≡ s
other_other Near = refl
other_other Far = refl

pub not_begun : (c : List Said) → begun c ≡ false → c ≡ []
not_begun [] e = refl
not_begun (x ∷ c) e = cc

-- the next message is of the side whose turn it is
pub follows_turn : (c : List Said) (s : Side) (m : Message) → MayFollow c (says s m) → s ≡ turn c
follows_turn c s (ReqNeg n o) f = f.1 ∙ sym (ap turn (not_begun c f.0))
follows_turn c s (Negotiate n o) f = f.0.in_turn
follows_turn c s (Wait n t) f = f.0.in_turn
follows_turn c s (End n v) f = f.in_turn
follows_turn c s (Invalid n d) f = absurd f
follows_turn c s m f = absurd f

-- no_objective follows an end
pub follows_open : (c : List Said) (s : Side) (m : Message) → MayFollow c (says s m) → ended c ≡ false
follows_open c s (ReqNeg n o) f = ap ended (not_begun c f.0)
follows_open c s (Negotiate n o) f = f.0.no_end
follows_open c s (Wait n t) f = f.0.no_end
follows_open c s (End n v) f = f.no_end
follows_open c s (Invalid n d) f = absurd f
follows_open c s m f = absurd f

-- the counts of a legal talk
pub record Counts (c : List Said) : Type 0 where
  pub sum : steps c + (newest_offer c).loops ≡ (requested c).loops
  pub some : (steps c ≡ 0) ⊎ (1 ≤ (newest_offer c).loops)

counts_on : (c : List Said) (s : Side) (m : Message) → MayFollow c (says s m) → Counts c → Counts (says s m ∷ c)
counts_on c s (ReqNeg n o) f h = let e : steps c ≡ 0 = ap steps (not_begun c f.0) in record { sum = omega arith; some = inl e }
counts_on c s (Negotiate n o) f h = record { sum = omega (arith, f.1.lower, h.sum); some = inr f.1.some_left }
counts_on c s (Wait n t) f h = record { sum = h.sum; some = h.some }
counts_on c s (End n v) f h = record { sum = h.sum; some = h.some }
counts_on c s (Invalid n d) f h = absurd f
counts_on c s m f h = absurd f

pub legal_counts : (c : List Said) → IsLegal c → Counts c
legal_counts [] h = record { sum = refl; some = inl refl }
legal_counts (x ∷ c) h = counts_on c x.side x.message h.0 (legal_counts c h.1)

pub counts_bounded : (c : List Said) → Counts c → IsBounded (requested c).loops c
counts_bounded c h = record { below = λ p. omega (arith, h.sum, h.some, p); none = λ e. omega (arith, h.sum, h.some, e) }
