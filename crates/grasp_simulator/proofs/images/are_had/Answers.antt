use Rattle.std.proofs.Common.{rules, refl}
use Rattle.grasp_pool.proofs.Meeting.{false_misses}
use Rattle.grasp_simulator.proofs.ImageParts.{never, none_had, more_had, one_had, all_had}
use Rattle.grasp_simulator.proofs.images.are_had.Goals as goal

pub loop-prefix-init : goal.loop-prefix-init
loop-prefix-init c = none_had c.args.agent.now c.args.prefixes.now

pub loop-prefix-preserved : goal.loop-prefix-preserved
loop-prefix-preserved c =
    more_had c.args.agent.now c.args.prefixes.now c.loop-prefix.prefix-index c.prefix-item.result c.loop-prefix-test.true c.prefix-item.is c.loop-prefix.invariant (c.is_had.ensures.0 c.if-not-is_had.false)

pub returns-then-not-is_had : goal.returns-then-not-is_had
returns-then-not-is_had c =
    never (λ all. false_misses c.is_had.result c.if-not-is_had.true (c.is_had.ensures.1 (one_had c.args.agent.now c.args.prefixes.now c.loop-prefix.prefix-index c.prefix-item.result c.loop-prefix-test.true c.prefix-item.is all)))

pub returns : goal.returns
returns c = (λ t. all_had c.args.agent.now c.args.prefixes.now c.loop-prefix.prefix-index (search rules) c.loop-prefix.invariant, λ all. refl)
