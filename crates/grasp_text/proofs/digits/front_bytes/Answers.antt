use Rattle.std.proofs.Common.{arith, length-set}
use Rattle.grasp_text.proofs.DigitWords.{no_digits, bytes_set, digits_read}
use Rattle.grasp_text.proofs.digits.front_bytes.Goals as goal

pub loop-count-init : goal.loop-count-init
loop-count-init c = record {
  room = omega arith;
  inside = omega arith;
  so_far = no_digits;
  bytes = λ i. omega (arith, c.type_inv.out i);
}

pub loop-count-preserved : goal.loop-count-preserved
loop-count-preserved c = record {
  room = omega (arith, length-set c.loop-count.out c.loop-count.count c.in-Some.byte);
  inside = omega arith;
  so_far = digits_read c.args.digits.now c.loop-count.out c.loop-count.count c.in-Some.byte (omega arith) (omega arith) c.in-Some.ensures.found c.loop-count.invariant.so_far;
  bytes = bytes_set c.loop-count.out c.loop-count.count c.in-Some.byte c.loop-count.invariant.bytes c.in-Some.ensures.small;
}
