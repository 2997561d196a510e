-- Looking for the line with which a header ends.
use Rattle.std.proofs.Common.{◌≡◌, ℕ, zero, suc, ◌-◌, ◌≤◌, ◌||◌, Bool, true, false, List, [], ◌∷◌, take, refl, ap, ◌∙◌, arith}
use Rattle.std.specs.List.{list_any}
use Rattle.grasp_script.proofs.ScriptLaws.{Lines}
use Rattle.grasp_script_parts.specs.Starting.{has_start, is_start}

-- the lines from this one on are looked at
pub no_lines : (m : ℕ) (lines : Lines) → lines ≡ [] → has_start (take m lines) ≡ false
unfolding has_start
no_lines m lines none = ap (λ (ls : Lines). list_any is_start (take m ls)) none ∙ of_none m where
  of_none : (m : ℕ) → list_any is_start (take m []) ≡ false
  of_none zero = refl
  of_none (suc m) = refl

pub here_is : (m : ℕ) (line : List ℕ) (lines rest : Lines) → lines ≡ line ∷ rest → 1 ≤ m → is_start line ≡ true → has_start (take m lines) ≡ true
unfolding has_start
here_is zero line lines rest parts least is = absurd (omega (arith, least))
here_is (suc m) line lines rest parts least is = ap (λ (ls : Lines). list_any is_start (take (suc m) ls)) parts ∙ ap (λ (b : Bool). b || list_any is_start (take m rest)) is

pub not_here : (m : ℕ) (line : List ℕ) (lines rest : Lines) → lines ≡ line ∷ rest → 1 ≤ m → is_start line ≡ false → has_start (take m lines) ≡ has_start (take (m - 1) rest)
unfolding has_start
not_here zero line lines rest parts least is = absurd (omega (arith, least))
not_here (suc m) line lines rest parts least is =
    ap (λ (ls : Lines). list_any is_start (take (suc m) ls)) parts ∙ ap (λ (b : Bool). b || list_any is_start (take m rest)) is
    ∙ ap (λ (k : ℕ). list_any is_start (take k rest)) (let e : m ≡ suc m - 1 = omega arith in e)

-- none is left to look at
pub none_taken : (lines : Lines) → has_start (take 0 lines) ≡ false
unfolding has_start
none_taken lines = refl
