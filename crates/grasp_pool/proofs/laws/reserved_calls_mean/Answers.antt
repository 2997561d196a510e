use Rattle.grasp_pool.proofs.Meanings.{back_means, back_keeps, confirm_means, confirm_keeps, doubt_means, doubt_keeps}
use Rattle.grasp_pool.proofs.laws.reserved_calls_mean.Goals as goal

pub returns-clause-back : goal.returns-clause-back
returns-clause-back c = back_means

pub returns-clause-back_pool : goal.returns-clause-back_pool
returns-clause-back_pool c = back_keeps

pub returns-clause-confirmed : goal.returns-clause-confirmed
returns-clause-confirmed c = confirm_means

pub returns-clause-confirmed_pool : goal.returns-clause-confirmed_pool
returns-clause-confirmed_pool c = confirm_keeps

pub returns-clause-doubted : goal.returns-clause-doubted
returns-clause-doubted c = doubt_means

pub returns-clause-doubted_pool : goal.returns-clause-doubted_pool
returns-clause-doubted_pool c = doubt_keeps
