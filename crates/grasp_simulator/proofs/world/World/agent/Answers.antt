use Rattle.grasp_simulator.proofs.WorldSeats.{seat_stands}
use Rattle.grasp_simulator.proofs.world.World.agent.Goals as goal

pub returns : goal.returns
returns c = λ s w seat h. (seat_stands c.args.self.now c.args.node s w seat c.seat.result.now c.requires c.seat.ensures h).agent
