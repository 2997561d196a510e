use Rattle.grasp_simulator.proofs.WantGoes.{want_runs}
use Rattle.grasp_simulator.proofs.world.World.want.Goals as goal

pub returns-clause-runs : goal.returns-clause-runs
returns-clause-runs c =
    want_runs c.args.self.now c.args.node c.args.least c.args.longest c.args.peer c.from.result c.locator_of.result c.want.result c.index_mut.result.now c.want.new.self c.want.ensures.life c.from.ensures c.index_mut.ensures.value
    c.locator_of.ensures c.want.ensures.reply c.want.ensures.stands
