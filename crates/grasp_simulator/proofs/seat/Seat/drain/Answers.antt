use Rattle.grasp_simulator.proofs.SeatCalls.{drain_seat}
use Rattle.grasp_simulator.proofs.seat.Seat.drain.Goals as goal

pub returns-in-Outputs-clause-outputs : goal.returns-in-Outputs-clause-outputs
returns-in-Outputs-clause-outputs c = λ s stands. (drain_seat c.args.self.now c.step.new.self c.args.max c.in-Outputs.outputs c.in-Outputs.ensures.steps s stands).0

pub returns-in-Outputs-clause-stands : goal.returns-in-Outputs-clause-stands
returns-in-Outputs-clause-stands c = λ s stands. (drain_seat c.args.self.now c.step.new.self c.args.max c.in-Outputs.outputs c.in-Outputs.ensures.steps s stands).1
