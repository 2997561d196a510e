use Rattle.std.proofs.Common.{refl}
use Rattle.grasp_simulator.specs.Seats.{clocked}
use Rattle.grasp_simulator.proofs.SeatCalls.{clock_steps}
use Rattle.grasp_simulator.proofs.seat.Seat.clock.Goals as goal

pub returns-clause-reading : goal.returns-clause-reading
returns-clause-reading c =
    let old = c.args.self.now in
    λ s stands. c.now.ensures (clocked s c.args.millis).core (clock_steps old (record { life = c.args.self.now.life; core = c.step-drained.new.self; agent = old.agent }) c.args.millis c.step-drained.result c.step-drained.ensures refl s stands).core

pub returns-clause-stands : goal.returns-clause-stands
returns-clause-stands c =
    let old = c.args.self.now in
    clock_steps old (record { life = c.args.self.now.life; core = c.step-drained.new.self; agent = old.agent }) c.args.millis c.step-drained.result c.step-drained.ensures refl
