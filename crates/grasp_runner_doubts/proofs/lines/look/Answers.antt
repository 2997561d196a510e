use Rattle.std.proofs.Common.{Ok}
use Rattle.grasp_runner.proofs.Telling.{looks}
use Rattle.grasp_runner_doubts.proofs.Telling.{lent_looks, lent_node, look_starves}
use Rattle.grasp_runner_doubts.proofs.lines.look.Goals as goal

pub agent-requires : goal.agent-requires
agent-requires c = lent_node c.args.world.now c.args.text.now c.args.node c.world.result.now c.world.ensures c.requires

pub returns-in-Ok : goal.returns-in-Ok
returns-in-Ok c =
    lent_looks c.args.world.now c.args.text.now c.args.node c.world.result.now c.world.ensures (Ok c.in-Ok.told)
    (looks c.world.result.now c.args.text.now c.in-Ok.told c.args.node c.agent.result.now c.agent.ensures c.in-Ok.ensures)

pub returns-in-Err : goal.returns-in-Err
returns-in-Err c = look_starves c.args.world.now c.args.text.now c.args.node
