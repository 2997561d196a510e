-- What the program writes at its end.
use Rattle.std.specs.Prelude.{◌⊎◌, ℕ, List, [], ◌∷◌, ◌++◌, Option}
use Rattle.std.specs.Io.KnownBytes.{Appends, Keeps}

-- the line and a line feed; nothing for an empty line
abbrev pub told_line : List ℕ → List ℕ
told_line [] = []
told_line (byte ∷ bytes) = (byte ∷ bytes) ++ 10 ∷ []

-- all of this was written, or nothing was
abbrev pub AppendsAllOrNothing : Option (List ℕ) → Option (List ℕ) → List ℕ → Type 0
AppendsAllOrNothing before after bytes = Appends before after bytes ⊎ Keeps before after
