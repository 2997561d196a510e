use Rattle.grasp_pool.proofs.Meanings.{settle_means, settle_keeps}
use Rattle.grasp_pool.proofs.laws.settle_means.Goals as goal

pub returns-clause-settled : goal.returns-clause-settled
returns-clause-settled c = settle_means

pub returns-clause-pool : goal.returns-clause-pool
returns-clause-pool c = settle_keeps
