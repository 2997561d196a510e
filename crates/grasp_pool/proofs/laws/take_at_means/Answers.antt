use Rattle.grasp_pool.proofs.TakingAt.{take_at_takes, take_at_refuses, take_at_keeps}
use Rattle.grasp_pool.proofs.laws.take_at_means.Goals as goal

pub returns-clause-taken : goal.returns-clause-taken
returns-clause-taken c = take_at_takes

pub returns-clause-refused : goal.returns-clause-refused
returns-clause-refused c = take_at_refuses

pub returns-clause-pool : goal.returns-clause-pool
returns-clause-pool c = take_at_keeps
