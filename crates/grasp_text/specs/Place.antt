-- The place at which a line stops being the beginning of a message's line.
use Rattle.std.specs.Prelude.{◌≡◌, ℕ, ◌⊎◌, List, [], ◌∷◌, ◌++◌, length, Result, Ok, Err}
use Rattle.grasp_text.specs.declared.fault.TextFault.{TextFault}
use Rattle.grasp_text.specs.declared.fault.TextFault.TheVariants.{BadText, OutOfMemory}
use Rattle.grasp_text.specs.Words.{words_of, joined}
use Rattle.grasp_text.specs.Line.{CanBegin}

-- the words before this one begin some message's line, and with it none
pub record IsUnfit (words front : List (List ℕ)) (word : List ℕ) (rest : List (List ℕ)) : Type 0 where
  pub parts : words ≡ front ++ word ∷ rest
  pub before : CanBegin front
  pub none : ¬ CanBegin (front ++ word ∷ [])

-- the place of the first byte of the first word that doesn't fit, so that the line has so many bytes from it on
pub record IsUnfitAt (line : List ℕ) (at : ℕ) : Type 0 where
  pub front : List (List ℕ)
  pub word : List ℕ
  pub rest : List (List ℕ)
  pub unfit : IsUnfit (words_of line) front word rest
  pub place : at ≡ length (joined (front ++ [] ∷ []))

-- the line's words begin some message's line, but a word is missing at the line's end
pub record IsMissingAt (line : List ℕ) (at : ℕ) : Type 0 where
  pub before : CanBegin (words_of line)
  pub place : at ≡ length line

-- the place of the first word with which, after the words before it, no message's line begins, or the line's length
-- where a word is missing
abbrev pub IsPlace : List ℕ → ℕ → Type 0
IsPlace line at = IsUnfitAt line at ⊎ IsMissingAt line at

-- the line was refused, at a place of which P says so
abbrev pub IfBadText : {X : Type 0} → Result X TextFault → (ℕ → Type 0) → Type 0
IfBadText (Ok x) P = Unit {0}
IfBadText (Err (BadText at)) P = P at
IfBadText (Err OutOfMemory) P = Unit {0}
