-- What a restart leaves of a stream, some sides of which are told that it is closed.
use Rattle.std.proofs.Common.{◌≡◌, refl, ◌∙◌, ℕ, ◌==◌, ◌||◌, Bool, true, false, List, [], ◌∷◌, map}
use Rattle.grasp_session.specs.Messages.{Side, Near, Far}
use Rattle.grasp_model_network.specs.Restarting.{is_of_life, waits_for, told_if, told_at}
use Rattle.grasp_model_network.specs.Setting.{Setting}
use Rattle.grasp_model_network.specs.Streams.{StreamState, told_closed, with_side}
use Rattle.grasp_laws_delivery.specs.Heads.{head_of, heads}
use Rattle.grasp_laws_delivery.proofs.EndMaps.{both, side_keeps}

-- what stays so where a side is told is so of the stream
pub told_by : (Q : StreamState → Type 0) → ((t : StreamState) (side : Side) → Q t → Q (with_side told_closed t side)) → (s : Setting) (node life : ℕ) (t : StreamState) → Q t → Q (told_at s node life t)
told_by Q told s node life t q = one (is_of_life life t.far || waits_for s node t) Far (told_if (t.near.node == life) Near t) (one (t.near.node == life) Near t q) where
  one : (b : Bool) (side : Side) (u : StreamState) → Q u → Q (told_if b side u)
  one true side u p = told u side p
  one false side u p = p

pub told_heads : (s : Setting) (node life : ℕ) (ts : List StreamState) → heads (map (told_at s node life) ts) ≡ heads ts
told_heads s node life [] = refl
told_heads s node life (t ∷ ts) =
    both (head_of (told_at s node life t)) (head_of t) (heads (map (told_at s node life) ts)) (heads ts)
    (told_by (λ u. head_of u ≡ head_of t) (λ u by same. side_keeps told_closed u by ∙ same) s node life t refl) (told_heads s node life ts)
