-- Floods as data.
use Rattle.std.specs.Prelude.{ℕ, List, [], ◌∷◌}
use Rattle.grasp_types.specs.declared.flood.FloodPart.{FloodPart}

-- the first objective's loop count is this, and all else is as it was
abbrev pub first_loops : List FloodPart → ℕ → List FloodPart
first_loops [] loops = []
first_loops (part ∷ parts) loops = record part { objective = record part.objective { loops = loops } } ∷ parts
