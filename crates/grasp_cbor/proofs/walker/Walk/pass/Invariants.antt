use Rattle.std.proofs.Common.{◌≡◌, ℕ, ◌-◌, ◌≤◌, List, ◌++◌, length, take}
use Rattle.grasp_cbor.specs.Walking.{Took, limit_of}
use Rattle.grasp_cbor.proofs.walker.Walk.pass.Given as goal

abbrev pub invariant-loop-passed : goal.invariant-loop-passed
invariant-loop-passed l = record {
  within : l.passed ≤ length l.bytes;
  took : (s : List ℕ) → Took l.fn.self s → Took l.self (s ++ take l.passed l.bytes);
  limit : limit_of l.self ≡ limit_of l.fn.self;
}

abbrev pub decreases-loop-passed : goal.decreases-loop-passed
decreases-loop-passed l = length l.bytes - l.passed
