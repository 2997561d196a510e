-- Inside: the first line of a text.
use Rattle.std.specs.Prelude.{◌≡◌, ◌⊎◌, ℕ, List, [], ◌∷◌, ◌++◌}
use Rattle.grasp_script.specs.Scripts.{text_lines}

-- this stands before the text's first LF and this behind it, and any other text may stand there; or the text has none
abbrev pub IsCut : List ℕ → List ℕ → List ℕ → Type 0
IsCut text line behind = ((text ≡ line ++ 10 ∷ behind) × ((r : List ℕ) → text_lines (line ++ 10 ∷ r) ≡ line ∷ text_lines r)) ⊎ ((text ≡ line) × (behind ≡ []))
