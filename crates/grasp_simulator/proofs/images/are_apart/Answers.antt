use Rattle.std.proofs.Common.{rules, refl}
use Rattle.grasp_pool.specs.Listings.{all_of}
use Rattle.grasp_pool.proofs.Meeting.{false_misses}
use Rattle.grasp_pool.proofs.Opening.{disjoint_more}
use Rattle.grasp_simulator.proofs.ImageParts.{never, clash_at, all_disjoint}
use Rattle.grasp_simulator.proofs.images.are_apart.Goals as goal

pub loop-i-preserved : goal.loop-i-preserved
loop-i-preserved c = disjoint_more (all_of c.args.image.now) c.loop-i.i c.image_at.result c.loop-i.invariant (search rules) c.image_at.ensures.is c.image_at.ensures.valid (c.is_apart.ensures.0 c.if-not-is_apart.false)

pub returns-then-not-is_apart : goal.returns-then-not-is_apart
returns-then-not-is_apart c =
    never (λ d. false_misses c.is_apart.result c.if-not-is_apart.true (c.is_apart.ensures.1 (clash_at (all_of c.args.image.now) c.loop-i.i c.image_at.result d (search rules) c.image_at.ensures.is)))

pub returns : goal.returns
returns c = (λ t. all_disjoint (all_of c.args.image.now) c.loop-i.i (search rules) c.loop-i.invariant, λ d. refl)
