use Rattle.grasp_simulator.proofs.WorldSeats.{told_place}
use Rattle.grasp_simulator.proofs.world.World.place.Goals as goal

pub returns : goal.returns
returns c = λ s w seat h. told_place c.args.self.now c.args.node c.args.number c.place.result s w seat c.seat.result.now c.requires c.seat.ensures c.place.ensures h
