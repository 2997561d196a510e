use Rattle.std.proofs.Common.{rules, ◌≡◌, None, sym, arith}
use Rattle.grasp_text.specs.Reading.{number_of}
use Rattle.grasp_text.proofs.NumberWords.{number_found, number_more_than, number_no_digits}
use Rattle.grasp_text.proofs.numbers.read_number.Goals as goal

pub returns-in_err-n-clause-value : goal.returns-in_err-n-clause-value
returns-in_err-n-clause-value c =
    let none : number_of c.args.most c.args.word.now ≡ None = number_no_digits c.args.most c.args.word.now (omega arith) (search rules) in
    search (rules, none)

pub returns-then-n-most-clause-value : goal.returns-then-n-most-clause-value
returns-then-n-most-clause-value c = sym (number_found c.args.most c.in_ok-n.n c.args.word.now (omega arith) c.if-n-most.true c.in_ok-n.ensures.some)

pub returns-else-n-most-clause-value : goal.returns-else-n-most-clause-value
returns-else-n-most-clause-value c = sym (number_more_than c.args.most c.args.word.now c.in_ok-n.n (omega arith) (omega arith) c.in_ok-n.ensures.some)
