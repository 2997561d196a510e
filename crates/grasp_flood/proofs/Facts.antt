-- Facts of filtered lists that several crates use.
use Rattle.std.proofs.Common.{Bool, List, filter, [], refl, ◌∷◌, cond, true, inr, false, inl}
use Rattle.grasp_flood.specs.Laws.{IsPartOf}

-- a filtered list is a part of the list
pub part_filter : {X : Type 0} (p : X → Bool) (xs : List X) → IsPartOf (filter p xs) xs
part_filter p [] = refl
part_filter p (x ∷ xs) = let rest = part_filter p xs in
    elim (p x) as (λ b. IsPartOf (cond b (x ∷ filter p xs) (filter p xs)) (x ∷ xs)) [ true ↦ inr (filter p xs, refl, rest) | false ↦ inl rest ]
