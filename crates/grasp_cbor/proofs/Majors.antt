-- Major types and their numbers.
use Rattle.std.proofs.Common.{◌≡◌, ℕ, suc, ◌<◌, refl, arith}
use Rattle.grasp_cbor.specs.Major.{major_number, major_of}
use Rattle.grasp_cbor.specs.declared.heads.Major.{Major}
use Rattle.grasp_cbor.specs.declared.heads.Major.TheVariants.{Unsigned}

pub major_of-major_number : (major : Major) → major_of (major_number major) ≡ major
unfolding major_of
major_of-major_number Unsigned = refl
major_of-major_number _ = refl

pub major_number-major_of : (k : ℕ) → k < 8 → major_number (major_of k) ≡ k
unfolding major_of
major_number-major_of (suc (suc (suc (suc (suc (suc (suc (suc k)))))))) h = absurd (omega arith)
major_number-major_of _ h = refl

pub major_number-below : (major : Major) → major_number major < 8
major_number-below Unsigned = omega arith
major_number-below _ = omega arith
