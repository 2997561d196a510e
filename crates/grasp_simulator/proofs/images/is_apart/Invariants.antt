use Rattle.grasp_pool.specs.Listings.{ApartBelow, all_of}
use Rattle.grasp_simulator.proofs.images.is_apart.Given as goal

abbrev pub invariant-loop-i : goal.invariant-loop-i
invariant-loop-i l = ApartBelow (all_of l.image) l.prefix l.i
