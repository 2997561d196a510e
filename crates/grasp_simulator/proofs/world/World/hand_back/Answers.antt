use Rattle.grasp_simulator.proofs.ReturnGoes.{return_runs}
use Rattle.grasp_simulator.proofs.world.World.hand_back.Goals as goal

pub returns-clause-runs : goal.returns-clause-runs
returns-clause-runs c =
    return_runs c.args.self.now c.args.node c.args.prefix c.args.peer c.from.result c.locator_of.result c.hand_back.result c.index_mut.result.now c.hand_back.new.self c.hand_back.ensures.life c.from.ensures c.index_mut.ensures.value
    c.locator_of.ensures c.hand_back.ensures.reply c.hand_back.ensures.stands
