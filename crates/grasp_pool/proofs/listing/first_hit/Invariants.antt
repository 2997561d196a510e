use Rattle.grasp_pool.specs.Listings.{listed, ApartBelow}
use Rattle.grasp_pool.proofs.listing.first_hit.Given as goal

abbrev pub invariant-loop-i : goal.invariant-loop-i
invariant-loop-i l = ApartBelow (listed l.listing) l.prefix l.i
