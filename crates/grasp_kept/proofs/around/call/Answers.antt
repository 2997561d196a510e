use Rattle.grasp_model_network.specs.declared.event.Event.TheVariants as event
use Rattle.grasp_kept.proofs.Calls.{call_asked, call_stops, keeper_goes, makes_call, mid_goes, next_stops, node_behind, node_here}
use Rattle.grasp_kept.proofs.around.call.Goals as goal

pub agent-agent-requires : goal.agent-agent-requires
agent-agent-requires c = node_here c.args.world.now c.args.keeper.now c.args.node c.requires

pub ask_before-requires-clause-goes : goal.ask_before-requires-clause-goes
ask_before-requires-clause-goes c = keeper_goes c.args.world.now c.args.keeper.now c.args.node c.requires

pub step-requires : goal.step-requires
step-requires c = call_asked c.args.world.now c.args.keeper.now c.args.node c.requires c.args.hold

pub agent-requires : goal.agent-requires
agent-requires c =
    node_behind c.args.world.now c.args.keeper.now c.args.node c.requires c.step.new.self (event.Agent c.args.node c.args.hold) c.in-Ok-step.report c.requires.goes.member c.in-Ok-step.ensures

pub ask_behind-requires : goal.ask_behind-requires
ask_behind-requires c = mid_goes c.args.world.now c.args.keeper.now c.args.node c.requires c.agent-agent.result.now c.agent-agent.ensures c.ask_before.new.keeper c.ask_before.ensures

pub returns-in-Ok-step : goal.returns-in-Ok-step
returns-in-Ok-step c =
    makes_call c.args.world.now c.step.new.self c.args.keeper.now c.ask_before.new.keeper c.ask_behind.new.keeper c.args.node c.args.hold c.agent-agent.result.now c.agent-agent.ensures c.ask_before.ensures
    c.in-Ok-step.report c.in-Ok-step.ensures c.agent.result.now c.agent.ensures c.ask_behind.ensures

pub returns-in-Err-step : goal.returns-in-Err-step
returns-in-Err-step c =
    call_stops c.args.world.now c.step.new.self c.args.keeper.now c.ask_before.new.keeper c.ask_before.new.keeper c.args.node c.args.hold c.in-Err-step.stop c.in-Err-step.ensures

pub returns-in-Err : goal.returns-in-Err
returns-in-Err c = next_stops c.args.world.now c.args.world.now c.args.keeper.now c.args.keeper.now c.args.keeper.now c.args.node c.args.hold
