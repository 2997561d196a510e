-- What a line of a script with crashes or with doubters can mean has one line. The layout is this project's own.
use Rattle.std.specs.Prelude.{◌≡◌, ℕ, ◌<◌, ◌≤◌, ◌^◌, List}
use Rattle.grasp_disk.specs.declared.left.Left.{Left}
use Rattle.grasp_model_network.specs.Plans.{IsNode}
use Rattle.grasp_script_doubts.specs.Lines.{IsDoubtAct, IsDoubtLine, doubt_words}
use Rattle.grasp_script_doubts.specs.declared.line.DoubtLineAct.{DoubtLineAct}
use Rattle.grasp_script_kept.specs.Lines.{IsCrashLine, crash_words}
use Rattle.grasp_text.specs.Words.{joined}

-- the words of its line with one blank between two of them
abbrev pub crash_line : ℕ → ℕ → Left → List ℕ
crash_line node calls left = joined (crash_words node calls left)

abbrev pub doubt_line : DoubtLineAct → List ℕ
doubt_line a = joined (doubt_words a)

-- each crash of a node of the script, after any number of calls of 64 bits and whatever is left, has exactly this line
abbrev pub EachCrashHasOneLine : Type 0
EachCrashHasOneLine = (nodes node calls : ℕ) (left : Left) → nodes ≤ 255 → IsNode nodes node → calls < 2 ^ 64
    → IsCrashLine nodes (crash_line node calls left) node calls left
    × ((text : List ℕ) → IsCrashLine nodes text node calls left → text ≡ crash_line node calls left)

-- so has each event, call of a doubter, question and look that a line of a script of doubters may mean
abbrev pub EachDoubtActHasOneLine : Type 0
EachDoubtActHasOneLine = (nodes : ℕ) (a : DoubtLineAct) → nodes ≤ 255 → IsDoubtAct nodes a
    → IsDoubtLine nodes (doubt_line a) a × ((line : List ℕ) → IsDoubtLine nodes line a → line ≡ doubt_line a)
