-- The levels in their places.
use Rattle.std.proofs.Common.{◌≡◌, ◌≢◌, ℕ, zero, suc, ◌+◌, ◌-◌, ◌<◌, ◌≤◌, false, List, ◌∷◌, length, get_or, set, Option, Some, None, is_some, refl, sym, ap, ◌∙◌, arith}
use Rattle.std.proofs.lemmas.List.{get_or-set_other, get_or-set_same}
use Rattle.grasp_cbor.specs.declared.heads.StringKind.{StringKind}
use Rattle.grasp_cbor.specs.declared.walker.Level.{Level}
use Rattle.grasp_cbor.specs.declared.walker.Level.TheVariants.{Parts}
use Rattle.grasp_cbor.specs.declared.walker.Stage.TheVariants.{Beginning}
use Rattle.grasp_cbor.specs.Step.{goes, finished, broken, waits, level_after, levels_in}

pub levels_in-set : (d : ℕ) (xs : List Level) (i : ℕ) (v : Level) → d ≤ i → levels_in d (set xs i v) ≡ levels_in d xs
levels_in-set zero xs i v h = refl
levels_in-set (suc d) xs i v h =
    let ne : d ≢ i = λ e. omega arith in
    let a : get_or (set xs i v) d (Parts 0) ≡ get_or xs d (Parts 0) = get_or-set_other xs i d v (Parts 0) ne in
    let b : levels_in d (set xs i v) ≡ levels_in d xs = levels_in-set d xs i v (omega arith) in
    λ j. a j ∷ b j

pub levels_in_top : (d : ℕ) (xs : List Level) → 0 < d → levels_in d xs ≡ get_or xs (d - 1) (Parts 0) ∷ levels_in (d - 1) xs
levels_in_top zero xs h = absurd (omega arith)
levels_in_top (suc d) xs h = let e : suc d - 1 ≡ d = omega arith in rw e refl

pub length-levels_in : (d : ℕ) (xs : List Level) → length (levels_in d xs) ≡ d
length-levels_in zero xs = refl
length-levels_in (suc d) xs = ap suc (length-levels_in d xs)

-- one level more
pub levels_in_more : (d : ℕ) (xs : List Level) (v : Level) → d < length xs → levels_in (d + 1) (set xs d v) ≡ v ∷ levels_in d xs
levels_in_more d xs v h =
    let top : d + 1 - 1 ≡ d = omega arith in
    let e : levels_in (d + 1) (set xs d v) ≡ get_or (set xs d v) d (Parts 0) ∷ levels_in d (set xs d v) = rw top at (levels_in_top (d + 1) (set xs d v) (omega arith)) in
    let a : get_or (set xs d v) d (Parts 0) ≡ v = get_or-set_same xs d v (Parts 0) h in
    e ∙ (λ j. a j ∷ levels_in-set d xs d v (omega arith) j)

pub finished_here : (d : ℕ) (xs : List Level) (v : Level) → 0 < d → d ≤ length xs → level_after (get_or xs (d - 1) (Parts 0)) ≡ Some v → finished (levels_in d xs) ≡ goes (levels_in d (set xs (d - 1) v)) None Beginning
finished_here d xs v h len e =
    let back : d - 1 + 1 ≡ d = omega arith in
    let t : levels_in d (set xs (d - 1) v) ≡ v ∷ levels_in (d - 1) xs = rw back at (levels_in_more (d - 1) xs v (omega arith)) in
    ap finished (levels_in_top d xs h) ∙ ap (λ r. waits r (levels_in (d - 1) xs) (finished (levels_in (d - 1) xs))) e ∙ ap (λ z. goes z None Beginning) (sym t)

-- a break ends the innermost level
pub broken_here : (d : ℕ) (xs : List Level) (string : Option StringKind) → string ≡ None → 0 < d → broken (levels_in d xs) string ≡ finished (levels_in (d - 1) xs)
broken_here d xs string e h = ap (λ z. broken (levels_in d xs) z) e ∙ ap (λ z. broken z None) (levels_in_top d xs h)

pub none_of : (string : Option StringKind) → is_some string ≡ false → string ≡ None
none_of None e = refl
none_of (Some kind) e = absurd cc
