-- A multiple is what leaves no remainder.
use Rattle.std.proofs.Common.{◌≡◌, ℕ, ◌+◌, ◌*◌, ◌/◌, ◌%◌, ◌<◌, ◌∙◌, ap, arith}
use Rattle.std.proofs.lemmas.Nat.{mod-mul-add, div-add-mod'}
use Rattle.grasp_types.specs.Prefix.{IsMultiple}

pub multiple_of_mod : (n x : ℕ) → x % n ≡ 0 → IsMultiple n x
multiple_of_mod n x e =
    let split : x / n * n + x % n ≡ x = div-add-mod' x n
    in (x / n, grind (arith, split, e))

pub mod_of_multiple : (n x : ℕ) → 0 < n → IsMultiple n x → x % n ≡ 0
mod_of_multiple n x pos m =
    let e : (m.0 * n + 0) % n ≡ 0 = mod-mul-add m.0 n 0 pos
    in let s : x ≡ m.0 * n + 0 = grind (arith, m.1)
    in ap (λ y. y % n) s ∙ e
