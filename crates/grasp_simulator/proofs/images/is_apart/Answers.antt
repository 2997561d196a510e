use Rattle.std.proofs.Common.{rules, refl}
use Rattle.grasp_pool.specs.Listings.{all_of}
use Rattle.grasp_pool.proofs.Meeting.{false_misses}
use Rattle.grasp_pool.proofs.Opening.{miss_at, apart_up_to}
use Rattle.grasp_simulator.proofs.ImageParts.{never, hit_at}
use Rattle.grasp_simulator.proofs.images.is_apart.Goals as goal

pub loop-i-preserved : goal.loop-i-preserved
loop-i-preserved c = miss_at (all_of c.args.image.now) c.args.prefix c.image_at.result c.loop-i.i c.loop-i.invariant (search rules) c.image_at.ensures.is
    (λ m. false_misses c.overlaps.result c.if-overlaps.false (c.overlaps.ensures.1 m))

pub returns-then-overlaps : goal.returns-then-overlaps
returns-then-overlaps c = never (hit_at (all_of c.args.image.now) c.args.prefix c.image_at.result c.loop-i.i c.args.count (search rules) (search rules) c.image_at.ensures.is (c.overlaps.ensures.0 c.if-overlaps.true))

pub returns : goal.returns
returns c = (λ t. apart_up_to (all_of c.args.image.now) c.args.prefix c.loop-i.i c.args.count (search rules) c.loop-i.invariant, λ a. refl)
