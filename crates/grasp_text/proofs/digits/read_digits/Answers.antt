use Rattle.std.proofs.Common.{arith}
use Rattle.grasp_text.proofs.DigitWords.{no_digits, bytes_set, digits_read, digits_of_none}
use Rattle.grasp_text.proofs.digits.read_digits.Goals as goal

pub loop-i-init : goal.loop-i-init
loop-i-init c = record { so_far = no_digits; bytes = λ i. omega (arith, c.type_inv.out i) }

pub returns-in-None-clause-none : goal.returns-in-None-clause-none
returns-in-None-clause-none c = λ e bytes small is. digits_of_none c.args.digits.now c.loop-i.i (omega arith) c.in-None.ensures.none bytes small is

pub loop-i-preserved : goal.loop-i-preserved
loop-i-preserved c = record {
  so_far = digits_read c.args.digits.now c.loop-i.out c.loop-i.i c.in-Some.byte (omega arith) (omega arith) c.in-Some.ensures.found c.loop-i.invariant.so_far;
  bytes = bytes_set c.loop-i.out c.loop-i.i c.in-Some.byte c.loop-i.invariant.bytes c.in-Some.ensures.small;
}
