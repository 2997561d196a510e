use Rattle.std.proofs.Common.{◌≡◌, ◌*◌, take}
use Rattle.hex.specs.Hex.{IsBytes, encode_lower}
use Rattle.grasp_text.proofs.digits.read_digits.Given as goal

abbrev pub invariant-loop-i : goal.invariant-loop-i
invariant-loop-i l = record {
  so_far : take (2 * l.i) l.digits ≡ encode_lower (take l.i l.out);
  bytes : IsBytes l.out;
}
