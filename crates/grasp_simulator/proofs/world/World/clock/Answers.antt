use Rattle.grasp_simulator.proofs.ClockGoes.{clock_runs}
use Rattle.grasp_simulator.proofs.world.World.clock.Goals as goal

pub returns-clause-runs : goal.returns-clause-runs
returns-clause-runs c =
    clock_runs c.streams_are_ready.ensures c.args.self.now c.args.node c.args.millis c.from.result c.clock.result c.index_mut.result.now c.clock.new.self c.clock.ensures.life c.from.ensures c.index_mut.ensures.value
    c.clock.ensures.reading c.clock.ensures.stands
