-- Inside: what follows the front of bytes.
use Rattle.std.specs.Prelude.{ℕ, ◌∷◌, List, [], Option, Some, None, ◌==◌, if◌then◌else◌}

-- what follows these bytes in others, where those begin with them
abbrev pub behind : List ℕ → List ℕ → Option (List ℕ)
behind [] bytes = Some bytes
behind (b ∷ front) [] = None
behind (b ∷ front) (c ∷ bytes) = if c == b then behind front bytes else None
