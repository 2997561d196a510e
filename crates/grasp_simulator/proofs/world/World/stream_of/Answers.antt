use Rattle.grasp_simulator.proofs.Lent.{stream_told}
use Rattle.grasp_simulator.proofs.world.World.stream_of.Goals as goal

pub returns : goal.returns
returns c = stream_told c.args.self.now c.args.node c.args.number c.seat.result.now c.number_of.result c.seat.ensures c.number_of.ensures
