-- A reader that goes on as long as there are words does its step, and goes on.
use Rattle.std.proofs.Common.{◌≡◌, ℕ, zero, suc, ◌<◌, List, length, arith}
use Rattle.grasp_text.specs.Reading.{Parsed}
use Rattle.grasp_text.specs.Grammar.{many, until}

module _ {S B : Type 0} (step : (S → List (List ℕ) → Parsed B) → S → List (List ℕ) → Parsed B) where
  -- the step goes on with fewer words alone
  abbrev pub IsLocal : Type 0
  IsLocal = (f g : S → List (List ℕ) → Parsed B) (s : S) (ws : List (List ℕ)) → ((t : S) (us : List (List ℕ)) → length us < length ws → f t us ≡ g t us) → step f s ws ≡ step g s ws

  enough : IsLocal → (m n : ℕ) (s : S) (ws : List (List ℕ)) → length ws < m → length ws < n → many step m s ws ≡ many step n s ws
  unfolding many
  enough local zero n s ws lt le = absurd (omega arith)
  enough local (suc m) zero s ws lt le = absurd (omega arith)
  enough local (suc m) (suc n) s ws lt le = local (many step m) (many step n) s ws (λ t us less. enough local m n t us (omega arith) (omega arith))

  pub until_step : IsLocal → (s : S) (ws : List (List ℕ)) → until step s ws ≡ step (until step) s ws
  unfolding until many
  until_step local s ws = local (many step (length ws)) (until step) s ws (λ t us less. enough local (length ws) (suc (length us)) t us less (omega arith))
