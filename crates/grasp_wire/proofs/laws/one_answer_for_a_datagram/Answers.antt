use Rattle.grasp_wire.proofs.OneAnswers.{some_answer, one_answer}
use Rattle.grasp_wire.proofs.laws.one_answer_for_a_datagram.Goals as goal

pub returns : goal.returns
returns c = record { some = some_answer; only = one_answer }
