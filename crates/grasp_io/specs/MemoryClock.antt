-- A clock in memory, as contracts see it.
use Rattle.std.specs.Prelude.{ℕ, zero, suc, List, [], ◌∷◌, ◌++◌, max, take}

-- the greatest of these readings, or 0
unfoldable pub highest : List ℕ → ℕ
highest [] = 0
highest (x ∷ xs) = max x (highest xs)

-- the first so many readings of a clock that is given these: each is the greatest up to its place
unfoldable pub readings_of : List ℕ → ℕ → List ℕ
readings_of given zero = []
readings_of given (suc count) = readings_of given count ++ highest (take (suc count) given) ∷ []
