use Rattle.grasp_pool.proofs.Maximal.{clean_canonical}
use Rattle.grasp_pool.proofs.laws.clean_lists_are_canonical.Goals as goal

pub returns-clause-lists : goal.returns-clause-lists
returns-clause-lists c = clean_canonical

pub returns-clause-pools : goal.returns-clause-pools
returns-clause-pools c = λ h pool. clean_canonical h.free pool.free.clean pool.free.rising
