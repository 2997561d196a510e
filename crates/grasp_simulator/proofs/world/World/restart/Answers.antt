use Rattle.grasp_simulator.proofs.TurnsTaken.{restart_ends}
use Rattle.grasp_simulator.proofs.world.World.restart.Goals as goal

pub returns-in-Ok : goal.returns-in-Ok
returns-in-Ok c = restart_ends c.args.self.now c.begin_anew.new.self c.args.node c.args.image.now c.in_default.is c.begin_anew.ensures.count c.in-Ok.ensures.begins
