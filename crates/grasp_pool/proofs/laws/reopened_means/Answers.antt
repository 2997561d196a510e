use Rattle.grasp_pool.proofs.Opening.{image_opens, reopened_pool}
use Rattle.grasp_pool.proofs.laws.reopened_means.Goals as goal

pub returns-clause-reopened : goal.returns-clause-reopened
returns-clause-reopened c = image_opens

pub returns-clause-pool : goal.returns-clause-pool
returns-clause-pool c = reopened_pool
