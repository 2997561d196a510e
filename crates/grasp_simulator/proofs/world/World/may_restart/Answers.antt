use Rattle.grasp_simulator.proofs.Reopened.{tells_restart}
use Rattle.grasp_simulator.proofs.world.World.may_restart.Goals as goal

pub returns : goal.returns
returns c = tells_restart c.args.self.now c.args.node c.args.image.now c.seat.result.now c.may_reopen.result c.seat.ensures c.may_reopen.ensures
