use Rattle.grasp_text.proofs.NumberWords.{digit_more, digit_none, if_none}
use Rattle.grasp_text.proofs.numbers.value_of_digits.Goals as goal

pub returns-in_err-value-clause-none : goal.returns-in_err-value-clause-none
returns-in_err-value-clause-none c = if_none c.from_residual.result (digit_none c.args.word.now c.loop-digit.digit-index c.loop-digit.value c.loop-digit-test.true c.loop-digit.invariant.value c.in_err-value.ensures.none)

pub loop-digit-preserved : goal.loop-digit-preserved
loop-digit-preserved c =
    let more = digit_more c.args.word.now c.loop-digit.digit-index c.loop-digit.value c.in_ok-value.value c.loop-digit-test.true c.loop-digit.invariant.digits c.loop-digit.invariant.value c.in_ok-value.ensures.some.0 c.in_ok-value.ensures.some.1 c.in_ok-value.ensures.some.2 in record {
      digits = more.0;
      value = more.1;
      small = c.in_ok-value.ensures.small;
    }
