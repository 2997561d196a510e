-- Inside: reading the words of a crash's line from left to right.
use Rattle.std.specs.Prelude.{◌≡◌, ℕ, List, Option, Some, None, if◌then◌else◌, codes}
use Rattle.std.specs.Str.{bytes_eq}
use Rattle.grasp_disk.specs.declared.left.Left.{Left}
use Rattle.grasp_disk.specs.declared.left.Left.TheVariants.{Old, New, Torn}
use Rattle.grasp_text.specs.Grammar.{ending}
use Rattle.grasp_text.specs.Reading.{Parsed, ◌>>=◌, exactly, word_at}
use Rattle.grasp_script.specs.Grammar.{node_of, number64}
use Rattle.grasp_script_kept.specs.declared.crash.Crash.{Crash}
use Rattle.grasp_script_kept.specs.declared.line.KeptLine.{KeptLine}
use Rattle.grasp_script_kept.specs.declared.line.KeptLine.TheVariants as line

-- a crash: its node, the number of calls, and what is left
pub record CrashWords : Type 0 where
  pub node : ℕ
  pub calls : ℕ
  pub left : Left

-- the line is that of this crash
abbrev pub IsCrashOf : Crash → KeptLine → Type 0
IsCrashOf c (line.Plain x) = ⊥
IsCrashOf c (line.Crash text node calls left) = (node ≡ c.node) × (calls ≡ c.calls) × (left ≡ c.left)

-- as the code has it
abbrev pub crash_words_of : Crash → CrashWords
crash_words_of c = record { node = c.node; calls = c.calls; left = c.left }

unfoldable pub left_of : List ℕ → Option Left
left_of word = if bytes_eq word (codes "old") then Some Old else (if bytes_eq word (codes "new") then Some New else (if bytes_eq word (codes "torn") then Some Torn else None))

unfoldable pub crash_at : ℕ → List (List ℕ) → Parsed CrashWords
crash_at nodes ws = do
  name ← word_at (exactly (codes "crash")) ws
  node ← word_at (node_of nodes) name.1
  calls ← word_at number64 node.1
  left ← word_at left_of calls.1
  ending (record { node = node.0; calls = calls.0; left = left.0 }) left.1
