use Rattle.grasp_simulator.proofs.Lent.{next_lent}
use Rattle.grasp_simulator.proofs.world.World.next_bytes.Goals as goal

pub returns : goal.returns
returns c = next_lent c.args.self.now c.args.stream c.args.far c.args.count c.piece.result.now c.piece.ensures
