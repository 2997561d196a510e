-- What has parts, one level down.
use Rattle.std.proofs.Common.{◌≡◌, ℕ, zero, suc, ◌-◌, ◌<◌, List, None, refl, arith}
use Rattle.grasp_cbor.specs.declared.build.Parts.{Parts}
use Rattle.grasp_cbor.specs.Build.{nested_with, nested_in, item_at}

pub nested_in-none : (d : ℕ) (p : Parts) (rest : List ℕ) → d ≡ 0 → nested_in d p rest ≡ None
unfolding nested_in
nested_in-none zero p rest h = refl
nested_in-none (suc d) p rest h = absurd (omega arith)

pub nested_in-more : (d : ℕ) (p : Parts) (rest : List ℕ) → 0 < d → nested_in d p rest ≡ nested_with (item_at (d - 1)) p rest
unfolding nested_in item_at
nested_in-more zero p rest h = absurd (omega arith)
nested_in-more (suc d) p rest h = let e : suc d - 1 ≡ d = omega arith in rw e refl

pub ruleset levels = (nested_in-none, nested_in-more)
