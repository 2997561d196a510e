-- Words that are answered by a text of the program's own.
use Rattle.std.specs.Prelude.{if◌then◌else◌, ℕ, List, [], ◌∷◌, Option, None, Some, codes, bytes_eq}
use Rattle.grasp_replay_main.specs.declared.words.Text.{Text}
use Rattle.grasp_replay_main.specs.declared.words.Text.TheVariants.{Help, Version}

-- what one word asks for
abbrev pub text_named : List ℕ → Option Text
text_named word =
    if bytes_eq word (codes "--help") then Some Help else if bytes_eq word (codes "--version") then Some Version else None

-- what the words ask for: one word does
abbrev pub text_for : List (List ℕ) → Option Text
text_for [] = None
text_for (word ∷ []) = text_named word
text_for (word ∷ other ∷ words) = None
