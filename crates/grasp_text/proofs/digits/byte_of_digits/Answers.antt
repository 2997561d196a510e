use Rattle.std.proofs.Common.{rules}
use Rattle.grasp_text.proofs.DigitWords.{digits_of_byte, no_low_digit}
use Rattle.grasp_text.proofs.NumberWords.{if_none}
use Rattle.grasp_text.proofs.digits.byte_of_digits.Goals as goal

pub returns-in_err-low-clause-none : goal.returns-in_err-low-clause-none
returns-in_err-low-clause-none c = if_none c.from_residual-in_err-low.result (no_low_digit c.args.high c.args.low (search rules))

pub returns-clause-found : goal.returns-clause-found
returns-clause-found c = digits_of_byte c.args.high c.args.low c.in_ok-high.high c.in_ok-low.low (search rules) (search rules)
