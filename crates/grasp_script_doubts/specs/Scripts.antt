-- Scripts of networks of doubters: a header as that of any script, and behind it lines that may be a doubter's.
use Rattle.std.specs.Prelude.{◌≡◌, ◌⊎◌, ℕ, ◌+◌, List, [], ◌∷◌, ◌++◌, length}
use Rattle.std.specs.List.{AllByRecursion}
use Rattle.grasp_model_network.specs.declared.plan.WorldPlan.{WorldPlan}
use Rattle.grasp_script.specs.Scripts.{IsHeader, text_lines}
use Rattle.grasp_script_doubts.specs.Lines.{IsDoubtLine}
use Rattle.grasp_script_doubts.specs.declared.line.DoubtLine.{DoubtLine}

-- the lines' texts
abbrev pub doubt_texts : List DoubtLine → List (List ℕ)
doubt_texts [] = []
doubt_texts (x ∷ xs) = x.text ∷ doubt_texts xs

abbrev pub IsItsDoubtLine : ℕ → DoubtLine → Type 0
IsItsDoubtLine nodes x = IsDoubtLine nodes x.text x.act

-- the text is such a script: the header of this plan, and these lines, each of which means what it says
pub record IsDoubtScript (text : List ℕ) (plan : WorldPlan) (lines : List DoubtLine) : Type 0 where
  pub header : List (List ℕ)
  pub is_header : IsHeader header plan
  pub meant : AllByRecursion (IsItsDoubtLine plan.nodes) lines
  pub parts : text_lines text ≡ header ++ doubt_texts lines

-- the text is none
abbrev pub IsNoDoubtScript : List ℕ → Type 0
IsNoDoubtScript text = (plan : WorldPlan) (lines : List DoubtLine) → ¬ IsDoubtScript text plan lines

-- some script's lines begin with these
pub record BeginsDoubtScript (front : List (List ℕ)) : Type 0 where
  pub plan : WorldPlan
  pub header : List (List ℕ)
  pub lines : List DoubtLine
  pub more : List (List ℕ)
  pub is_header : IsHeader header plan
  pub meant : AllByRecursion (IsItsDoubtLine plan.nodes) lines
  pub parts : header ++ doubt_texts lines ≡ front ++ more

-- the lines before this one begin some script, and with it none; they are numbered from 1
pub record IsUnfitDoubtLine (text : List ℕ) (number : ℕ) : Type 0 where
  pub front : List (List ℕ)
  pub line : List ℕ
  pub rest : List (List ℕ)
  pub parts : text_lines text ≡ front ++ line ∷ rest
  pub before : BeginsDoubtScript front
  pub none : ¬ BeginsDoubtScript (front ++ line ∷ [])
  pub place : number ≡ length front + 1

-- the lines begin some script, but the header's end is missing
pub record IsMissingDoubtLine (text : List ℕ) (number : ℕ) : Type 0 where
  pub before : BeginsDoubtScript (text_lines text)
  pub none : IsNoDoubtScript text
  pub place : number ≡ length (text_lines text) + 1

-- the number of the first line with which, after the lines before it, no script begins, or the number after the last line where one is missing
abbrev pub IsBadDoubtLine : List ℕ → ℕ → Type 0
IsBadDoubtLine text number = IsUnfitDoubtLine text number ⊎ IsMissingDoubtLine text number
