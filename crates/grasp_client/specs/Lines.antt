-- Lines of bytes, each ended by a line feed, that are taken from one place and put to another.
use Rattle.std.specs.Prelude.{◌≡◌, ◌≢◌, ℕ, List, [], ◌∷◌, ◌++◌, All, Option, None, Some, ⊤, ◌⊎◌}
use Rattle.std.specs.List.{flat_map}
use Rattle.std.specs.Io.KnownBytes.{Appends, Consumes}

-- no byte is a line feed
abbrev pub IsLine : List ℕ → Type 0
IsLine bytes = All (λ b. b ≢ 10) bytes

-- a line with its end
abbrev pub ended : List ℕ → List ℕ
ended line = line ++ 10 ∷ []

-- the text that these lines make, each with its end
abbrev pub text_of : List (List ℕ) → List ℕ
text_of lines = flat_map ended lines

-- the text is these lines with their ends; behind the last end there may be a line that has none, if it isn't empty
abbrev pub AreLinesOf : List ℕ → List (List ℕ) → Type 0
AreLinesOf text lines =
    All IsLine lines × ((text ≡ text_of lines)
    ⊎ ((before : List (List ℕ)) × (rest : List ℕ) × (rest ≢ []) × (lines ≡ before ++ rest ∷ []) × (text ≡ text_of before ++ rest)))

-- what was left is used up
abbrev pub RunsOut : Option (List ℕ) → Option (List ℕ) → Type 0
RunsOut None new = ⊤
RunsOut (Some old) new = new ≡ Some []

-- these lines were taken from one place, each whole, and put at the end of another
pub record Copies (left_before left_after put_before put_after : Option (List ℕ)) (lines : List (List ℕ)) : Type 0 where
  pub taken : Consumes left_before left_after (text_of lines)
  pub put : Appends put_before put_after (text_of lines)
  pub are_lines : All IsLine lines

-- Inside: a line was taken with its end
pub record GotLine (before after : Option (List ℕ)) (line : List ℕ) : Type 0 where
  pub taken : Consumes before after (ended line)
  pub is_line : IsLine line

-- Inside: all that was left was taken, and it had no end of a line
pub record GotRest (before after : Option (List ℕ)) (rest : List ℕ) : Type 0 where
  pub taken : Consumes before after rest
  pub is_line : IsLine rest
  pub runs_out : RunsOut before after
