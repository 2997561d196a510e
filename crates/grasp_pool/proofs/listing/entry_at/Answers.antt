use Rattle.std.proofs.Common.{◌<◌, arith, length, map, subst}
use Rattle.std.proofs.lemmas.List.{length-map}
use Rattle.grasp_pool.specs.Listings.{listed}
use Rattle.grasp_pool.specs.Roots.{block_of}
use Rattle.grasp_pool.specs.declared.listing.Listing.{Listing}
use Rattle.grasp_pool.proofs.listing.entry_at.Goals as goal

pub root_at-prefix-requires-clause-within : goal.root_at-prefix-requires-clause-within
root_at-prefix-requires-clause-within c =
    let roots = c.in-Roots.roots.now
    in let w : c.args.i < length (map block_of c.in-Roots.roots.now) = subst (λ (l : Listing). c.args.i < length (listed l)) c.in-Roots.is c.requires.within
    in omega (arith, length-map roots block_of)
