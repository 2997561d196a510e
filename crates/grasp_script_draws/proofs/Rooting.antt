-- The roots of the ring are prefixes.
use Rattle.std.proofs.Common.{ℕ, zero, suc, ◌+◌, ◌*◌, ◌%◌, ◌^◌, ◌≤◌, refl, arith}
use Rattle.grasp_types.specs.Prefix.{IsPrefix}

pub root_valid : (n : ℕ) → n ≤ 4 → IsPrefix ((137456629760 + n) * 2 ^ 88 % 2 ^ 128) 40
root_valid zero h = record { least = omega arith; most = omega arith; within = omega arith; aligned = (137456629760, refl) }
root_valid (suc zero) h = record { least = omega arith; most = omega arith; within = omega arith; aligned = (137456629761, refl) }
root_valid (suc (suc zero)) h = record { least = omega arith; most = omega arith; within = omega arith; aligned = (137456629762, refl) }
root_valid (suc (suc (suc zero))) h = record { least = omega arith; most = omega arith; within = omega arith; aligned = (137456629763, refl) }
root_valid (suc (suc (suc (suc zero)))) h = record { least = omega arith; most = omega arith; within = omega arith; aligned = (137456629764, refl) }
root_valid (suc (suc (suc (suc (suc n))))) h = absurd (omega (arith, h))
