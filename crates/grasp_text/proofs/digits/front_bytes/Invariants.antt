use Rattle.std.proofs.Common.{◌≡◌, ◌-◌, ◌*◌, ◌≤◌, length, take}
use Rattle.hex.specs.Hex.{IsBytes, encode_lower}
use Rattle.grasp_text.proofs.digits.front_bytes.Given as goal

abbrev pub invariant-loop-count : goal.invariant-loop-count
invariant-loop-count l = record {
  room : l.count ≤ length l.out;
  inside : 2 * l.count ≤ length l.digits;
  so_far : take (2 * l.count) l.digits ≡ encode_lower (take l.count l.out);
  bytes : IsBytes l.out;
}

abbrev pub decreases-loop-count : goal.decreases-loop-count
decreases-loop-count l = length l.out - l.count
