-- What the program writes at its end.
use Rattle.std.specs.Prelude.{ℕ, List, [], ◌∷◌, ◌++◌}

-- the line and a line feed; nothing for an empty line
abbrev pub told_line : List ℕ → List ℕ
told_line [] = []
told_line (byte ∷ bytes) = (byte ∷ bytes) ++ 10 ∷ []
