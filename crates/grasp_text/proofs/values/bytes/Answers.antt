use Rattle.std.proofs.Common.{sym}
use Rattle.grasp_text.proofs.Readers.{bytes_spelled, bytes_denied, no_bytes}
use Rattle.grasp_text.proofs.values.bytes.Goals as goal

pub returns-in-Some-clause-found : goal.returns-in-Some-clause-found
returns-in-Some-clause-found c = bytes_spelled c.args.word.now c.in-Some.digits.now (sym c.in-Some.ensures) c.bytes_of_digits.result (λ v. v.items) c.bytes_of_digits.ensures

pub returns-in-Some-clause-none : goal.returns-in-Some-clause-none
returns-in-Some-clause-none c = bytes_denied c.args.word.now c.in-Some.digits.now (sym c.in-Some.ensures) c.bytes_of_digits.result (λ v. v.items) c.bytes_of_digits.ensures

pub returns-in-None-clause-none : goal.returns-in-None-clause-none
returns-in-None-clause-none c = no_bytes c.args.word.now (sym c.in-None.ensures)
