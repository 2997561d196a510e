use Rattle.std.proofs.Common.{rules}
use Rattle.grasp_pool.specs.Listings.{listed}
use Rattle.grasp_pool.proofs.Opening.{disjoint_more}
use Rattle.grasp_pool.proofs.listing.first_clash.Goals as goal

pub loop-second-preserved : goal.loop-second-preserved
loop-second-preserved c = disjoint_more (listed c.args.listing.now) c.loop-second.second c.entry_at.result c.loop-second.invariant (search rules) c.entry_at.ensures.is c.entry_at.ensures.valid
    c.in_default.ensures
