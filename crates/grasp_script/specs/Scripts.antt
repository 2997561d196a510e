-- Scripts: their lines, and where a text stops being the beginning of one. The layout is this project's own.
use Rattle.std.specs.Prelude.{◌≡◌, ℕ, ◌+◌, ◌⊎◌, ◌==◌, List, [], ◌∷◌, ◌++◌, length, map, Option, Result, Ok, Err}
use Rattle.std.specs.List.{slice_split, AllByRecursion}
use Rattle.grasp_text.specs.Words.{words_of}
use Rattle.grasp_model_network.specs.Plans.{IsGoodPlan}
use Rattle.grasp_model_network.specs.declared.plan.WorldPlan.{WorldPlan}
use Rattle.grasp_script.specs.Acts.{IsLine}
use Rattle.grasp_script.specs.Headers.{header_words, plan_told}
use Rattle.grasp_script.specs.declared.header.HeaderLine.{HeaderLine}
use Rattle.grasp_script.specs.declared.line.Line.{Line}
use Rattle.grasp_script.specs.declared.fault.ScriptFault.{ScriptFault}
use Rattle.grasp_script.specs.declared.fault.ScriptFault.TheVariants.{BadScript, OutOfMemory}

-- ---- lines

-- what stands behind the last LF is a line only where it isn't empty
abbrev pub unless_empty : List ℕ → List (List ℕ)
unless_empty [] = []
unless_empty (byte ∷ bytes) = (byte ∷ bytes) ∷ []

abbrev pub without_empty_end : List (List ℕ) → List (List ℕ)
without_empty_end [] = []
without_empty_end (line ∷ []) = unless_empty line
without_empty_end (line ∷ next ∷ lines) = line ∷ without_empty_end (next ∷ lines)

-- the lines of a text: each ends in LF, the last one perhaps not
unfoldable pub text_lines : List ℕ → List (List ℕ)
text_lines text = without_empty_end (slice_split (λ b. b == 10) text)

-- ---- the header

-- the lines are the header of this plan, which is good
pub record IsHeader (lines : List (List ℕ)) (plan : WorldPlan) : Type 0 where
  pub size : Option ℕ
  pub told : List HeaderLine
  pub is_plan : plan ≡ plan_told plan.nodes size told
  pub good : IsGoodPlan plan
  pub spelled : map words_of lines ≡ header_words plan.nodes size told

-- ---- scripts

-- the lines' texts
abbrev pub texts : List Line → List (List ℕ)
texts [] = []
texts (line ∷ lines) = line.text ∷ texts lines

abbrev pub IsItsLine : ℕ → Line → Type 0
IsItsLine nodes line = IsLine nodes line.text line.act

-- the text is a script: the header of this plan, and these lines, each of which means what it does
pub record IsScript (text : List ℕ) (plan : WorldPlan) (lines : List Line) : Type 0 where
  pub header : List (List ℕ)
  pub is_header : IsHeader header plan
  pub meant : AllByRecursion (IsItsLine plan.nodes) lines
  pub parts : text_lines text ≡ header ++ texts lines

-- the text is no script
abbrev pub IsNoScript : List ℕ → Type 0
IsNoScript text = (plan : WorldPlan) (lines : List Line) → ¬ IsScript text plan lines

-- some script's lines begin with these
pub record BeginsScript (front : List (List ℕ)) : Type 0 where
  pub plan : WorldPlan
  pub header : List (List ℕ)
  pub lines : List Line
  pub more : List (List ℕ)
  pub is_header : IsHeader header plan
  pub meant : AllByRecursion (IsItsLine plan.nodes) lines
  pub parts : header ++ texts lines ≡ front ++ more

-- the lines before this one begin some script, and with it none; they are numbered from 1
pub record IsUnfitLine (text : List ℕ) (number : ℕ) : Type 0 where
  pub front : List (List ℕ)
  pub line : List ℕ
  pub rest : List (List ℕ)
  pub parts : text_lines text ≡ front ++ line ∷ rest
  pub before : BeginsScript front
  pub none : ¬ BeginsScript (front ++ line ∷ [])
  pub place : number ≡ length front + 1

-- the lines begin some script, but the header's end is missing
pub record IsMissingLine (text : List ℕ) (number : ℕ) : Type 0 where
  pub before : BeginsScript (text_lines text)
  pub none : IsNoScript text
  pub place : number ≡ length (text_lines text) + 1

-- the number of the first line with which, after the lines before it, no script begins, or the number after the last line
-- where one is missing
abbrev pub IsBadLine : List ℕ → ℕ → Type 0
IsBadLine text number = IsUnfitLine text number ⊎ IsMissingLine text number

-- the text was refused, at a line of which P says so
abbrev pub IfBadScript : {X : Type 0} → Result X ScriptFault → (ℕ → Type 0) → Type 0
IfBadScript (Ok x) P = Unit {0}
IfBadScript (Err (BadScript line)) P = P line
IfBadScript (Err OutOfMemory) P = Unit {0}
