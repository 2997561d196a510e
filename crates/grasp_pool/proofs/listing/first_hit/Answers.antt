use Rattle.std.proofs.Common.{rules}
use Rattle.grasp_pool.specs.Listings.{listed}
use Rattle.grasp_pool.proofs.Meeting.{false_misses}
use Rattle.grasp_pool.proofs.Opening.{miss_at, apart_up_to}
use Rattle.grasp_pool.proofs.listing.first_hit.Goals as goal

pub loop-i-preserved : goal.loop-i-preserved
loop-i-preserved c = miss_at (listed c.args.listing.now) c.args.prefix c.entry_at.result c.loop-i.i c.loop-i.invariant (search rules) c.entry_at.ensures.is
    (λ m. false_misses c.overlaps.result c.if-overlaps.false (c.overlaps.ensures.1 m))

pub returns : goal.returns
returns c = apart_up_to (listed c.args.listing.now) c.args.prefix c.loop-i.i c.args.count (search rules) c.loop-i.invariant
