use Rattle.grasp_pool.proofs.Changes.{same_least}
use Rattle.grasp_pool.proofs.laws.one_lowest_free.Goals as goal

pub returns : goal.returns
returns c = same_least
