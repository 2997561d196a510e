use Rattle.std.proofs.Common.{arith}
use Rattle.grasp_text.proofs.Readers.{number_spelled, number_denied}
use Rattle.grasp_text.proofs.numbers.number.Goals as goal

pub returns-clause-found : goal.returns-clause-found
returns-clause-found c = number_spelled c.args.most c.args.word.now c.read_number.result (omega arith) c.read_number.ensures.value

pub returns-clause-none : goal.returns-clause-none
returns-clause-none c = number_denied c.args.most c.args.word.now c.read_number.result (omega arith) c.read_number.ensures.value
