use Rattle.std.proofs.Common.{◌≡◌, [], drop}
use Rattle.grasp_pool.specs.Functions.{each, join}
use Rattle.grasp_pool.specs.Listings.{listed}
use Rattle.grasp_pool.proofs.Opening.{IsUpTo}
use Rattle.grasp_pool.proofs.listing.fill.Given as goal

abbrev pub invariant-loop-place : goal.invariant-loop-place
invariant-loop-place l = record {
  up : IsUpTo (listed l.listing) l.place l.list;
  is : each join (drop l.place (listed l.listing)) l.list ≡ each join (listed l.listing) [];
}
