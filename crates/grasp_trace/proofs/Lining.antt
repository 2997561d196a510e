-- Lines, word by word.
use Rattle.std.proofs.Common.{◌≡◌, ℕ, List, [], ◌∷◌, ◌++◌, Result, Ok, Err, OnOk, ap, ◌∙◌}
use Rattle.grasp_text.specs.Words.{spaced}
use Rattle.grasp_text.proofs.Pushed.{one_pushed, some_pushed}
use Rattle.grasp_trace.specs.Lines.{line_text}

-- words behind words
pub ruleset pushes = (one_pushed, some_pushed)

-- three words
pub three_pushed : {A E : Type 0} (r : Result A E) (old a b new w v u : List ℕ) → a ≡ old ++ spaced (w ∷ []) → b ≡ a ++ spaced (v ∷ []) → OnOk r (new ≡ b ++ spaced (u ∷ [])) → OnOk r (new ≡ old ++ spaced (w ∷ v ∷ u ∷ []))
three_pushed (Ok x) old a b new w v u p q h = some_pushed old b new (w ∷ v ∷ []) (u ∷ []) (some_pushed old a b (w ∷ []) (v ∷ []) p q) h
three_pushed (Err e) old a b new w v u p q h = tt

-- a whole line
pub line_pushed : (named worded new what : List ℕ) (words : List (List ℕ)) → named ≡ what → worded ≡ named ++ spaced words → new ≡ worded ++ 10 ∷ [] → new ≡ line_text what words
line_pushed named worded new what words p q r =
    r ∙ ap (λ (x : List ℕ). x ++ 10 ∷ []) (q ∙ ap (λ (x : List ℕ). x ++ spaced words) p)
