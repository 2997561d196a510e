use Rattle.grasp_pool.specs.Listings.{DisjointBelow, all_of}
use Rattle.grasp_simulator.proofs.images.are_apart.Given as goal

abbrev pub invariant-loop-i : goal.invariant-loop-i
invariant-loop-i l = DisjointBelow (all_of l.image) l.i
