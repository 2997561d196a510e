use Rattle.grasp_pool.proofs.TakingAt.{free_is}
use Rattle.grasp_pool.proofs.laws.free_means.Goals as goal

pub returns : goal.returns
returns c = free_is
