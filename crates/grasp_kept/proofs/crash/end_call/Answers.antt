use Rattle.grasp_kept.proofs.Cutting.{end_asked, end_goes, end_node, end_stops, ends_call}
use Rattle.grasp_kept.proofs.crash.end_call.Goals as goal

pub step-requires : goal.step-requires
step-requires c = end_asked c.args.world.now c.args.keeper.now c.args.node c.args.calls c.requires

pub agent-requires : goal.agent-requires
agent-requires c = end_node c.args.world.now c.args.keeper.now c.args.node c.args.calls c.requires c.step.new.self c.in-Ok._report c.in-Ok.ensures

pub try_behind-goes-requires : goal.try_behind-goes-requires
try_behind-goes-requires c = end_goes c.args.world.now c.args.keeper.now c.args.node c.args.calls c.requires

pub returns-in-Ok : goal.returns-in-Ok
returns-in-Ok c =
    ends_call c.args.world.now c.step.new.self c.args.keeper.now c.try_behind-goes.new.keeper c.args.node c.args.calls c.in-Ok._report c.in-Ok.ensures c.agent.result.now c.agent.ensures c.try_behind-goes.result
    c.try_behind-goes.ensures.done c.try_behind-goes.ensures.stopped

pub returns-in-Err : goal.returns-in-Err
returns-in-Err c = end_stops c.args.world.now c.step.new.self c.args.keeper.now c.args.keeper.now c.args.node c.args.calls c.in-Err.stop c.in-Err.ensures
