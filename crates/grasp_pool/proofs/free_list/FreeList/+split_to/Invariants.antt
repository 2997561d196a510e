use Rattle.std.proofs.Common.{◌-◌}
use Rattle.grasp_pool.proofs.free_list.FreeList.+split_to.Given as goal

abbrev pub decreases-split_to : goal.decreases-split_to
decreases-split_to l = l.part.length - l.whole.length
