use Rattle.grasp_runner.proofs.Telling.{looks}
use Rattle.grasp_runner.proofs.lines.look.Goals as goal

pub returns-in-Ok-clause-shows : goal.returns-in-Ok-clause-shows
returns-in-Ok-clause-shows c = looks c.args.world.now c.args.text.now c.in-Ok.told c.args.node c.agent.result.now c.agent.ensures c.in-Ok.ensures
