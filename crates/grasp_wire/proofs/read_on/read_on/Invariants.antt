use Rattle.std.proofs.Common.{◌≡◌, ◌+◌, ◌-◌, ◌≤◌, ℕ, List, ◌++◌, length, take}
use Rattle.grasp_cbor.specs.ItemReader.{reader_limit}
use Rattle.grasp_wire.specs.ReadOn.{IsOpen}
use Rattle.grasp_wire.proofs.read_on.read_on.Given as goal

abbrev pub invariant-loop-i : goal.invariant-loop-i
invariant-loop-i g l = record {
  within : l.i ≤ length l.more;
  limit : reader_limit l.reader ≡ reader_limit l.fn.reader;
  opened : (bytes : List ℕ) → IsOpen l.fn.reader bytes → IsOpen l.reader (bytes ++ take l.i l.more);
  steps : l.steps ≡ l.fn.steps + l.i;
}

abbrev pub decreases-loop-i : goal.decreases-loop-i
decreases-loop-i g l = length l.more - l.i
