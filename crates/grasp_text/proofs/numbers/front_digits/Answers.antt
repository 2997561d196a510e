use Rattle.std.proofs.Common.{◌≡◌, ◌+◌, ◌-◌, ◌*◌, get_or, arith}
use Rattle.grasp_text.proofs.NumberWords.{digit_more, few_digits}
use Rattle.grasp_text.proofs.numbers.front_digits.Goals as goal

pub overflow_mul-value : goal.overflow_mul-value
overflow_mul-value c = omega (arith, few_digits c.args.bytes.now c.loop-end.end c.loop-end.value c.if-end-lt-MOST_DIGITS.true c.loop-end.invariant.digits c.loop-end.invariant.value)

pub overflow_add-value : goal.overflow_add-value
overflow_add-value c = omega (arith, few_digits c.args.bytes.now c.loop-end.end c.loop-end.value c.if-end-lt-MOST_DIGITS.true c.loop-end.invariant.digits c.loop-end.invariant.value)

pub loop-end-preserved : goal.loop-end-preserved
loop-end-preserved c =
    let next : c.loop-end.value * 10 + c.from.result ≡ c.loop-end.value * 10 + (get_or c.args.bytes.now c.loop-end.end 0 - 48) = omega arith in
    let more = digit_more c.args.bytes.now c.loop-end.end c.loop-end.value _ c.loop-end-test.true c.loop-end.invariant.digits c.loop-end.invariant.value (omega arith) (omega arith) next in record {
      inside = omega arith;
      few = omega arith;
      digits = more.0;
      value = more.1;
    }
