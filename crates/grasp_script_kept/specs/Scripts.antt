-- Scripts of networks whose nodes crash: a header as that of any script, and behind it lines that may be crashes.
use Rattle.std.specs.Prelude.{◌≡◌, ◌⊎◌, ℕ, ◌+◌, List, [], ◌∷◌, ◌++◌, length}
use Rattle.std.specs.List.{AllByRecursion}
use Rattle.grasp_model_network.specs.declared.plan.WorldPlan.{WorldPlan}
use Rattle.grasp_script.specs.Scripts.{IsHeader, text_lines}
use Rattle.grasp_script_kept.specs.Lines.{IsKeptLine, kept_text}
use Rattle.grasp_script_kept.specs.declared.line.KeptLine.{KeptLine}

-- the lines' texts
abbrev pub kept_texts : List KeptLine → List (List ℕ)
kept_texts [] = []
kept_texts (x ∷ xs) = kept_text x ∷ kept_texts xs

-- the text is such a script: the header of this plan, and these lines, each of which means what it says
pub record IsKeptScript (text : List ℕ) (plan : WorldPlan) (lines : List KeptLine) : Type 0 where
  pub header : List (List ℕ)
  pub is_header : IsHeader header plan
  pub meant : AllByRecursion (IsKeptLine plan.nodes) lines
  pub parts : text_lines text ≡ header ++ kept_texts lines

-- the text is none
abbrev pub IsNoKeptScript : List ℕ → Type 0
IsNoKeptScript text = (plan : WorldPlan) (lines : List KeptLine) → ¬ IsKeptScript text plan lines

-- some script's lines begin with these
pub record BeginsKeptScript (front : List (List ℕ)) : Type 0 where
  pub plan : WorldPlan
  pub header : List (List ℕ)
  pub lines : List KeptLine
  pub more : List (List ℕ)
  pub is_header : IsHeader header plan
  pub meant : AllByRecursion (IsKeptLine plan.nodes) lines
  pub parts : header ++ kept_texts lines ≡ front ++ more

-- the lines before this one begin some script, and with it none; they are numbered from 1
pub record IsUnfitKeptLine (text : List ℕ) (number : ℕ) : Type 0 where
  pub front : List (List ℕ)
  pub line : List ℕ
  pub rest : List (List ℕ)
  pub parts : text_lines text ≡ front ++ line ∷ rest
  pub before : BeginsKeptScript front
  pub none : ¬ BeginsKeptScript (front ++ line ∷ [])
  pub place : number ≡ length front + 1

-- the lines begin some script, but the header's end is missing
pub record IsMissingKeptLine (text : List ℕ) (number : ℕ) : Type 0 where
  pub before : BeginsKeptScript (text_lines text)
  pub none : IsNoKeptScript text
  pub place : number ≡ length (text_lines text) + 1

-- the number of the first line with which, after the lines before it, no script begins, or the number after the last line where one is missing
abbrev pub IsBadKeptLine : List ℕ → ℕ → Type 0
IsBadKeptLine text number = IsUnfitKeptLine text number ⊎ IsMissingKeptLine text number
