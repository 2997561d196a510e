use Rattle.grasp_pool.proofs.free_list.FreeList.+merge_in.Given as goal

abbrev pub decreases-merge_in : goal.decreases-merge_in
decreases-merge_in l = l.prefix.length
