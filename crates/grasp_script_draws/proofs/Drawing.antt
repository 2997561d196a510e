-- Numbers as they are drawn.
use Rattle.std.proofs.Common.{◌≡◌, ℕ, ◌+◌, ◌*◌, ◌%◌}
use Rattle.std.proofs.Math.Nat.{mod-add-mod}

pub drawn : (x a c m : ℕ) → ((x * a) % m + c) % m ≡ (x * a + c) % m
drawn x a c m = mod-add-mod (x * a) m c
