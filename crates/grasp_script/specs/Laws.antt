-- Laws on the lines of scripts, and on scripts.
use Rattle.std.specs.Prelude.{◌≡◌, ℕ, ◌≤◌, List}
use Rattle.grasp_text.specs.Words.{joined}
use Rattle.grasp_model_network.specs.declared.plan.WorldPlan.{WorldPlan}
use Rattle.grasp_script.specs.Acts.{act_words, IsAct, IsLine}
use Rattle.grasp_script.specs.Scripts.{IsScript, IsBadLine}
use Rattle.grasp_script.specs.declared.line.Line.{Line}
use Rattle.grasp_script.specs.declared.line.LineAct.{LineAct}

-- the words of a line with one blank between two of them
abbrev pub act_line : LineAct → List ℕ
act_line a = joined (act_words a)

-- a line means one thing at most
abbrev pub LinesMeanOneThing : Type 0
LinesMeanOneThing = (nodes : ℕ) (line : List ℕ) (a b : LineAct) → nodes ≤ 255 → IsLine nodes line a → IsLine nodes line b → a ≡ b

-- what a line can mean has exactly one line
abbrev pub EachActHasOneLine : Type 0
EachActHasOneLine = (nodes : ℕ) (a : LineAct) → nodes ≤ 255 → IsAct nodes a → IsLine nodes (act_line a) a × ((line : List ℕ) → IsLine nodes line a → line ≡ act_line a)

-- a text is at most one script
abbrev pub TextsHaveOneScript : Type 0
TextsHaveOneScript = (text : List ℕ) (p q : WorldPlan) (a b : List Line) → IsScript text p a → IsScript text q b → (p ≡ q) × (a ≡ b)

-- a text has at most one bad line
abbrev pub TextsHaveOneBadLine : Type 0
TextsHaveOneBadLine = (text : List ℕ) (m n : ℕ) → IsBadLine text m → IsBadLine text n → m ≡ n

-- a text that is a script has no bad line
abbrev pub ScriptsHaveNoBadLine : Type 0
ScriptsHaveNoBadLine = (text : List ℕ) (plan : WorldPlan) (lines : List Line) (n : ℕ) → IsScript text plan lines → ¬ IsBadLine text n
