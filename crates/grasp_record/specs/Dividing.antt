-- Inside: a line's words before and behind its first `=`.
use Rattle.std.specs.Prelude.{◌≡◌, ◌≢◌, ℕ, false, List, [], ◌∷◌, ◌++◌, codes}
use Rattle.std.specs.List.{AllByRecursion}
use Rattle.grasp_text.specs.Words.{is_over}

-- the words behind the first one
abbrev pub behind_first : List (List ℕ) → List (List ℕ)
behind_first [] = []
behind_first (word ∷ words) = words

-- `=` isn't among the words
abbrev pub HaveNoSign : List (List ℕ) → Type 0
HaveNoSign words = AllByRecursion (λ w. w ≢ codes "=") words

-- the first `=` that has words before it and behind it stands between these
pub record IsDivided (words front back : List (List ℕ)) : Type 0 where
  pub parts : words ≡ front ++ codes "=" ∷ back
  pub before : is_over front ≡ false
  pub behind : is_over back ≡ false
  pub first : HaveNoSign (behind_first front)
