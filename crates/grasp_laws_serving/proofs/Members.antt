-- A member of the first network stands there by its first seat.
use Rattle.std.proofs.Common.{◌≡◌, sym, ap, ◌∙◌, subst, ℕ, length, Some}
use Rattle.std.proofs.lemmas.Option.{same_Some}
use Rattle.grasp_laws_network.proofs.Appended.{numbered_get}
use Rattle.grasp_laws_network.proofs.Here.{numbered_within}
use Rattle.grasp_laws_network.proofs.Lists.{numbered_there}
use Rattle.grasp_laws_network.proofs.Lives.{first_present}
use Rattle.grasp_laws_network.proofs.Staying.{first_seats}
use Rattle.grasp_laws_prefixes.proofs.FirstPrefixes.{IsFirst, is_first}
use Rattle.grasp_model_network.specs.Openings.{first_seat}
use Rattle.grasp_model_network.specs.Plans.{IsNode}
use Rattle.grasp_model_network.specs.Runs.{first_world}
use Rattle.grasp_model_network.specs.Setting.{Member, Setting, numbered}
use Rattle.grasp_model_network.specs.World.{Seat, present_life, seat_at}

module _ (s : Setting) (node : ℕ) (m : Member) (found : numbered s.members node ≡ Some m) where
  pub member_is : IsNode (length s.members) node
  member_is = numbered_within s.members node m found

  pub first_stands : (seat : Seat) → seat_at (first_world s) (present_life (first_world s) node) ≡ Some seat → seat ≡ first_seat m
  first_stands seat here = from (is_first s node seat (subst (λ (n : ℕ). seat_at (first_world s) n ≡ Some seat) (first_present s node member_is) here)) where
    from : IsFirst s node seat → seat ≡ first_seat m
    from f = f.made ∙ ap first_seat (same_Some f.member m (sym f.stands ∙ numbered_get s.members node m found))

  -- it is there
  pub first_there : (seat : Seat) × (seat_at (first_world s) (present_life (first_world s) node) ≡ Some seat)
  first_there =
      numbered_there (first_world s).seats (present_life (first_world s) node)
      (subst (λ (n : ℕ). IsNode n (present_life (first_world s) node)) (sym (first_seats s)) (subst (λ (n : ℕ). IsNode (length s.members) n) (sym (first_present s node member_is)) member_is))
