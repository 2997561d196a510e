-- Which session numbers are in use.
use Rattle.std.proofs.Common.{◌≡◌, ◌<◌, ℕ, ◌==◌, Bool, false, ◌||◌, List, [], ◌∷◌, length, Contains, refl, sym, ◌∙◌}
use Rattle.std.specs.Bool.{Decides}
use Rattle.std.specs.List.{HoldsAt}
use Rattle.std.proofs.lemmas.List.{get_or_default}
use Rattle.std.proofs.lemmas.Bool.Decides.{Decides-by_or, Decides-eqb}
use Rattle.grasp_laws_node.proofs.Numbers.Used.{used_is}
use Rattle.grasp_laws_node.specs.Numbers.{numbers_in_use}
use Rattle.grasp_laws_numbers.specs.Next.{UsedAreInUse}
use Rattle.grasp_model_node.specs.Draws.{is_used}
use Rattle.grasp_model_node.specs.Node.{NodeState}

-- the number is in the list
abbrev among : ℕ → List ℕ → Bool
among k [] = false
among k (x ∷ xs) = (x == k) || among k xs

-- it is so at some place
abbrev IsSomewhere : ℕ → List ℕ → Type 0
IsSomewhere k xs = (i : ℕ) × (i < length xs) × HoldsAt (λ x. x ≡ k) xs i

somewhere : (k : ℕ) (xs : List ℕ) → Decides (among k xs) (IsSomewhere k xs)
somewhere k xs = Decides-by_or (λ x. x == k) (λ x. x ≡ k) (among k) (λ x. Decides-eqb x k) refl (λ x ys. refl) xs

contained : (k : ℕ) (xs : List ℕ) → IsSomewhere k xs → Contains xs k
contained k xs p = (p.0, p.1, p.2 k)

found : (k : ℕ) (xs : List ℕ) → Contains xs k → IsSomewhere k xs
found k xs c = (c.0, c.1, λ d. get_or_default xs c.0 d k c.1 ∙ c.2)

is_among : (k : ℕ) (xs : List ℕ) → Decides (among k xs) (Contains xs k)
is_among k xs = (λ e. contained k xs ((somewhere k xs).0 e), λ c. (somewhere k xs).1 (found k xs c))

used : (n : NodeState) (number : ℕ) → is_used n number ≡ among number (numbers_in_use n)
used n number = used_is n number

pub used_are_in_use : UsedAreInUse
used_are_in_use n number =
    (λ e. (is_among number (numbers_in_use n)).0 (sym (used n number) ∙ e), λ there. used n number ∙ (is_among number (numbers_in_use n)).1 there)
