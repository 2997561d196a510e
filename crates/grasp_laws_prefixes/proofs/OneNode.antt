-- Where one node is another one now, what holds of that one and of each other node holds of every node.
use Rattle.std.proofs.Common.{◌≡◌, ◌≢◌, sym, ap, ◌∙◌, subst, ℕ, inl, inr, ◌⊎◌, length, Some}
use Rattle.std.proofs.lemmas.Bool.{cases_eq}
use Rattle.std.proofs.lemmas.Option.{same_Some}
use Rattle.grasp_laws_network.proofs.Here.{numbered_within}
use Rattle.grasp_laws_network.proofs.Lists.{numbered_there}
use Rattle.grasp_model_network.specs.Plans.{IsNode}
use Rattle.grasp_model_network.specs.World.{Seat, WorldState, seat_at}

pub each_node : (w x : WorldState) (node : ℕ) (new : Seat) → seat_at x node ≡ Some new → ((n : ℕ) → n ≢ node → seat_at x n ≡ seat_at w n) → (P : ℕ → Seat → Type 0) → P node new
    → ((n : ℕ) (seat : Seat) → n ≢ node → seat_at w n ≡ Some seat → P n seat) → (n : ℕ) (seat : Seat) → seat_at x n ≡ Some seat → P n seat
each_node w x node new there same P own others n seat found = by_node (cases_eq n node) where
  by_node : (n ≡ node) ⊎ (n ≡ node → ⊥) → P n seat
  by_node (inl e) = subst (λ m. P m seat) (sym e) (subst (λ (z : Seat). P node z) (same_Some new seat (sym there ∙ (ap (λ m. seat_at x m) (sym e) ∙ found))) own)
  by_node (inr apart) = others n seat apart (sym (same n apart) ∙ found)

-- where there are as many nodes, each is there
pub seat_there : (w y : WorldState) → length y.seats ≡ length w.seats → (node : ℕ) (seat : Seat) → seat_at w node ≡ Some seat → (new : Seat) × (seat_at y node ≡ Some new)
seat_there w y count node seat here = numbered_there y.seats node (subst (λ n. IsNode n node) (sym count) (numbered_within w.seats node seat here))
