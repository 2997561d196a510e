use Rattle.grasp_kept.proofs.Calls.{node_here}
use Rattle.grasp_kept.proofs.Cutting.{cut_answers, end_answers, has_begun, stops_goes, until_starves}
use Rattle.grasp_kept.proofs.crash.call_until.Goals as goal

pub agent-agent-requires : goal.agent-agent-requires
agent-agent-requires c = node_here c.args.world.now c.args.keeper.now c.args.node c.requires

pub try_before-requires-clause-goes : goal.try_before-requires-clause-goes
try_before-requires-clause-goes c = stops_goes c.args.world.now c.args.keeper.now c.stop_after.new.self c.args.node c.args.calls c.stop_after.ensures.stops c.requires

pub end_call-requires : goal.end_call-requires
end_call-requires c =
    has_begun c.args.world.now c.args.world.now c.args.keeper.now c.stop_after.new.self c.try_before.new.keeper c.try_before.new.keeper c.args.node c.args.calls c.stop_after.ensures.stops
    c.agent-agent.result.now c.agent-agent.ensures (c.try_before.ensures.done c.if-try_before.true) c.requires

pub returns-in_default : goal.returns-in_default
returns-in_default c = until_starves c.args.world.now c.args.world.now c.args.keeper.now c.args.keeper.now c.args.node c.args.calls

pub returns-then-try_before : goal.returns-then-try_before
returns-then-try_before c =
    end_answers c.args.world.now c.end_call.new.world c.args.keeper.now c.stop_after.new.self c.try_before.new.keeper c.end_call.new.keeper c.args.node c.args.calls c.stop_after.ensures.stops
    c.agent-agent.result.now c.agent-agent.ensures (c.try_before.ensures.done c.if-try_before.true) c.end_call.result c.end_call.ensures

pub returns : goal.returns
returns c =
    cut_answers c.args.world.now c.args.world.now c.args.keeper.now c.stop_after.new.self c.try_before.new.keeper c.try_before.new.keeper c.args.node c.args.calls c.stop_after.ensures.stops
    c.agent-agent.result.now c.agent-agent.ensures (c.try_before.ensures.stopped c.if-try_before.false)
