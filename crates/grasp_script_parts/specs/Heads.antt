-- Where a text stops being the beginning of a script's header. The layout is this project's own.
use Rattle.std.specs.Prelude.{◌≡◌, ◌⊎◌, ℕ, ◌+◌, List, [], ◌∷◌, ◌++◌, length}
use Rattle.grasp_model_network.specs.declared.plan.WorldPlan.{WorldPlan}
use Rattle.grasp_script.specs.Scripts.{IsHeader, text_lines}

-- no header stands at the text's beginning
abbrev pub HasNoHead : List ℕ → Type 0
HasNoHead text = (plan : WorldPlan) (header rest : List (List ℕ)) → IsHeader header plan → ¬ (text_lines text ≡ header ++ rest)

-- some header begins with these lines
pub record BeginsHead (front : List (List ℕ)) : Type 0 where
  pub plan : WorldPlan
  pub header : List (List ℕ)
  pub more : List (List ℕ)
  pub is_header : IsHeader header plan
  pub parts : header ≡ front ++ more

-- the lines before this one begin some header, and with it none; they are numbered from 1
pub record IsUnfitHeadLine (text : List ℕ) (number : ℕ) : Type 0 where
  pub front : List (List ℕ)
  pub line : List ℕ
  pub rest : List (List ℕ)
  pub parts : text_lines text ≡ front ++ line ∷ rest
  pub before : BeginsHead front
  pub none : ¬ BeginsHead (front ++ line ∷ [])
  pub place : number ≡ length front + 1

-- the lines begin some header, but its end is missing
pub record IsMissingHeadLine (text : List ℕ) (number : ℕ) : Type 0 where
  pub before : BeginsHead (text_lines text)
  pub place : number ≡ length (text_lines text) + 1

-- the text begins with no header: this is the number of the first line with which, after the lines before it, none begins, or the number after the
-- last line where one is missing
pub record IsBadHead (text : List ℕ) (number : ℕ) : Type 0 where
  pub none : HasNoHead text
  pub bad : IsUnfitHeadLine text number ⊎ IsMissingHeadLine text number
