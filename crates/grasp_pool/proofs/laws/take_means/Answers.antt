use Rattle.grasp_pool.proofs.Meanings.{take_answers, take_keeps}
use Rattle.grasp_pool.proofs.laws.take_means.Goals as goal

pub returns-clause-answer : goal.returns-clause-answer
returns-clause-answer c = take_answers

pub returns-clause-pool : goal.returns-clause-pool
returns-clause-pool c = take_keeps
