-- Facts of what rose that several crates use.
use Rattle.std.proofs.Common.{ℕ, ◌≤◌, inl, arith, inr}
use Rattle.grasp_io.specs.Faults.{Rose}

-- what rose rose from each number before
pub rose_before : (x y z : ℕ) → x ≤ y → Rose y z → Rose x z
rose_before x y z p (inl l) = inl (omega (arith, p, l))
rose_before x y z p (inr e) = inr e
