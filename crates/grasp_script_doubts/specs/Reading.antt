-- Inside: reading the words of a doubter's lines from left to right.
use Rattle.std.specs.Prelude.{ℕ, List, Option, Some, None, if◌then◌else◌, codes}
use Rattle.std.specs.Str.{bytes_eq}
use Rattle.grasp_text.specs.Grammar.{ending}
use Rattle.grasp_text.specs.Reading.{Parsed, ◌>>=◌, word_at}
use Rattle.grasp_script.specs.Grammar.{node_of, prefix_of}
use Rattle.grasp_script_doubts.specs.declared.line.DoubtLineAct.{DoubtLineAct}
use Rattle.grasp_script_doubts.specs.declared.line.DoubtLineAct.TheVariants as act
use Rattle.grasp_script_doubts.specs.declared.words.DoubtWord.{DoubtWord}
use Rattle.grasp_script_doubts.specs.declared.words.DoubtWord.TheVariants as word

-- the first word of a doubter's line
unfoldable pub doubt_word_of : List ℕ → Option DoubtWord
doubt_word_of w = if bytes_eq w (codes "doubter") then Some word.Doubter else (if bytes_eq w (codes "ask") then Some word.Ask else None)

-- the doubter's next call
unfoldable pub doubter_at : ℕ → List (List ℕ) → Parsed DoubtLineAct
doubter_at nodes ws = do
  node ← word_at (node_of nodes) ws
  ending (act.Doubter node.0) node.1

-- a question
unfoldable pub ask_at : ℕ → List (List ℕ) → Parsed DoubtLineAct
ask_at nodes ws = do
  node ← word_at (node_of nodes) ws
  prefix ← word_at prefix_of node.1
  peer ← word_at (node_of nodes) prefix.1
  ending (act.Ask node.0 prefix.0 peer.0) peer.1

-- the line behind its first word
abbrev pub of_doubts_at : ℕ → DoubtWord → List (List ℕ) → Parsed DoubtLineAct
of_doubts_at nodes word.Doubter ws = doubter_at nodes ws
of_doubts_at nodes word.Ask ws = ask_at nodes ws

-- a doubter's line
unfoldable pub doubts_at : ℕ → List (List ℕ) → Parsed DoubtLineAct
doubts_at nodes ws = do
  name ← word_at doubt_word_of ws
  of_doubts_at nodes name.0 name.1
