-- Numbers with no first bits in common with nothing.
use Rattle.std.proofs.Common.{◌≡◌, ◌<◌, ◌^◌, ℕ, true, refl}
use Rattle.std.proofs.Math.Nat.{div-eq_of_lt}
use Rattle.grasp_io.specs.Guards.{same_first}

-- any two numbers have the same first 0 bits
pub none_same : (length x y : ℕ) → length ≡ 0 → x < 2 ^ 128 → y < 2 ^ 128 → true ≡ same_first 128 length x y
none_same length x y z a b = rw z (rw (div-eq_of_lt a) (rw (div-eq_of_lt b) refl))
