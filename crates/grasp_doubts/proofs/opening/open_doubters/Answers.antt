use Rattle.std.proofs.Common.{rules, arith, ◌≡◌}
use Rattle.grasp_doubts.proofs.Openings.{all_opened, can_open, none_opened, one_opened}
use Rattle.grasp_doubts.proofs.opening.open_doubters.Goals as goal

pub loop-before-init : goal.loop-before-init
loop-before-init c = none_opened c.args.plan.now c.args.world.now c.new-doubters.result.items (search rules) c.requires.network

pub open_calls-requires : goal.open_calls-requires
open_calls-requires c = can_open c.args.plan.now c.loop-before.before c.loop-before.world c.loop-before.doubters.items c.requires.good c.loop-before.invariant (omega arith)

pub loop-before-preserved : goal.loop-before-preserved
loop-before-preserved c =
    one_opened c.args.plan.now c.loop-before.before c.loop-before.world c.open_calls.new.world c.loop-before.doubters.items c.push.new.self.items c.in_ok-open.field-0 c.address_of.result c.requires.good
    c.loop-before.invariant (omega arith) c.in_ok-open_calls.ensures c.in_ok-open.ensures c.address_of.ensures c.in_ok-push.ensures.items

pub returns : goal.returns
returns c =
    let all : c.loop-before.before ≡ c.args.plan.now.nodes = omega arith in
    all_opened c.args.plan.now c.loop-before.before c.loop-before.world c.loop-before.doubters.items c.loop-before.invariant all
