-- The lines of a script of a network whose nodes crash. The layout is this project's own.
use Rattle.std.specs.Prelude.{◌≡◌, ℕ, ◌<◌, ◌^◌, List, [], ◌∷◌, codes, decimal}
use Rattle.std.specs.Str.{IsUtf8}
use Rattle.grasp_disk.specs.declared.left.Left.{Left}
use Rattle.grasp_disk.specs.declared.left.Left.TheVariants.{Old, New, Torn}
use Rattle.grasp_text.specs.Words.{words_of}
use Rattle.grasp_model_network.specs.Plans.{IsNode}
use Rattle.grasp_script.specs.Acts.{IsLine}
use Rattle.grasp_script_kept.specs.declared.line.KeptLine.{KeptLine}
use Rattle.grasp_script_kept.specs.declared.line.KeptLine.TheVariants as line

-- what a crash leaves of the writes that no sync came after
abbrev pub left_word : Left → List ℕ
left_word Old = codes "old"
left_word New = codes "new"
left_word Torn = codes "torn"

-- the words of a crash's line: the node, after how many calls its disk stops, and what is left
abbrev pub crash_words : ℕ → ℕ → Left → List (List ℕ)
crash_words node calls left = codes "crash" ∷ decimal node ∷ decimal calls ∷ left_word left ∷ []

-- the line's text
abbrev pub kept_text : KeptLine → List ℕ
kept_text (line.Plain x) = x.text
kept_text (line.Crash text node calls left) = text

-- the line, in a script of so many nodes, is that of this crash: it is a text whose words, which stand between single blanks, are these
pub record IsCrashLine (nodes : ℕ) (text : List ℕ) (node calls : ℕ) (left : Left) : Type 0 where
  pub is_node : IsNode nodes node
  pub calls_fit : calls < 2 ^ 64
  pub is_text : IsUtf8 text
  pub spelled : words_of text ≡ crash_words node calls left

-- the line means, in a script of so many nodes, what it says
abbrev pub IsKeptLine : ℕ → KeptLine → Type 0
IsKeptLine nodes (line.Plain x) = IsLine nodes x.text x.act
IsKeptLine nodes (line.Crash text node calls left) = IsCrashLine nodes text node calls left

-- the text means nothing
abbrev pub IsNoKeptLine : ℕ → List ℕ → Type 0
IsNoKeptLine nodes text = (x : KeptLine) → kept_text x ≡ text → ¬ IsKeptLine nodes x
