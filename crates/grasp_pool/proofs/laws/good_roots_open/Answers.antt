use Rattle.grasp_pool.proofs.Opening.{roots_open, opened_pool}
use Rattle.grasp_pool.proofs.laws.good_roots_open.Goals as goal

pub returns-clause-opened : goal.returns-clause-opened
returns-clause-opened c = roots_open

pub returns-clause-pool : goal.returns-clause-pool
returns-clause-pool c = opened_pool
