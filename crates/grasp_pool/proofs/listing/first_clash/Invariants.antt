use Rattle.grasp_pool.specs.Listings.{listed, DisjointBelow}
use Rattle.grasp_pool.proofs.listing.first_clash.Given as goal

abbrev pub invariant-loop-second : goal.invariant-loop-second
invariant-loop-second l = DisjointBelow (listed l.listing) l.second
