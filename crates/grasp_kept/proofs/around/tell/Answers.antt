use Rattle.grasp_kept.proofs.Calls.{is_asked, keeper_goes, node_behind, telling_stops, tells}
use Rattle.grasp_kept.proofs.around.tell.Goals as goal

pub step-requires : goal.step-requires
step-requires c =
    let h = c.requires.has in
    is_asked c.args.world.now h.setting h.state.world c.args.event h.goes.stands c.requires.fit

pub agent-requires : goal.agent-requires
agent-requires c = node_behind c.args.world.now c.args.keeper.now c.args.node c.requires.has c.step.new.self c.args.event c.in-Ok.report c.requires.fit c.in-Ok.ensures

pub ask_behind-requires : goal.ask_behind-requires
ask_behind-requires c = keeper_goes c.args.world.now c.args.keeper.now c.args.node c.requires.has

pub returns-in-Ok : goal.returns-in-Ok
returns-in-Ok c =
    tells c.args.world.now c.step.new.self c.args.keeper.now c.ask_behind.new.keeper c.args.node c.args.event c.in-Ok.report c.in-Ok.ensures c.agent.result.now c.agent.ensures c.ask_behind.ensures

pub returns-in-Err : goal.returns-in-Err
returns-in-Err c = telling_stops c.args.world.now c.step.new.self c.args.keeper.now c.args.keeper.now c.args.node c.args.event c.in-Err.stop c.in-Err.ensures
