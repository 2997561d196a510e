use Rattle.std.proofs.Common.{◌<◌, ◌≤◌, get_or, arith}
use Rattle.grasp_text.proofs.DigitTable.{values, digit_read, digit_refused}
use Rattle.grasp_text.proofs.digits.digit_value.Goals as goal

pub returns-then-value-lt16-clause-value : goal.returns-then-value-lt16-clause-value
returns-then-value-lt16-clause-value c =
    let small : get_or values c.args.digit 0 < 16 = c.if-value-lt16.true in
    digit_read c.args.digit (omega arith) small

pub returns-else-value-lt16-clause-value : goal.returns-else-value-lt16-clause-value
returns-else-value-lt16-clause-value c =
    let large : 16 ≤ get_or values c.args.digit 0 = c.if-value-lt16.false in
    digit_refused c.args.digit (omega arith) large
