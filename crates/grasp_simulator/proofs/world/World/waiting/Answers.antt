use Rattle.grasp_simulator.proofs.Lent.{waiting_told}
use Rattle.grasp_simulator.proofs.world.World.waiting.Goals as goal

pub returns : goal.returns
returns c = waiting_told c.streams_are_ready.ensures c.args.self.now c.args.stream c.waiting_at.result c.waiting_at.ensures
