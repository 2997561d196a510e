use Rattle.std.proofs.Common.{refl}
use Rattle.grasp_simulator.proofs.SeatCalls.{seat_steps}
use Rattle.grasp_simulator.proofs.seat.Seat.step.Goals as goal

pub returns-clause-steps : goal.returns-clause-steps
returns-clause-steps c =
    let old = c.args.self.now in
    seat_steps old (record { life = old.life; core = c.step.new.self; agent = old.agent }) c.now-now.result c.args.input c.step.result c.now-now.ensures c.step.ensures refl
