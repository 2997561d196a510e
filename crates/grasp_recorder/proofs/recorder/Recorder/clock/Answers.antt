use Rattle.std.proofs.Common.{ap}
use Rattle.grasp_model_network.specs.declared.event.Event.TheVariants as event
use Rattle.grasp_recorder.specs.Taking.{drained_line}
use Rattle.grasp_recorder.proofs.Clocks.{clock_reading, clock_recorded, reads_clock}
use Rattle.grasp_recorder.proofs.Steps.{step_asked, step_stopped}
use Rattle.grasp_recorder.proofs.recorder.Recorder.clock.Goals as goal

pub step-requires : goal.step-requires
step-requires c = step_asked c.args.self.now c.args.world.now (event.Clock c.args.node c.args.millis) c.requires

pub shown-now-requires : goal.shown-now-requires
shown-now-requires c = reads_clock c.args.self.now c.args.world.now c.step.new.self c.args.node c.args.millis c.in-Ok.report c.requires c.in-Ok.ensures

pub set_reading-requires : goal.set_reading-requires
set_reading-requires c = clock_reading c.args.self.now c.args.world.now c.args.node c.args.millis c.requires

pub returns-in-Ok : goal.returns-in-Ok
returns-in-Ok c =
    clock_recorded c.args.self.now c.set_reading.new.self c.args.world.now c.step.new.self c.args.node c.args.millis c.shown-now.result c.in-Ok.report (drained_line c.args.node c.shown-now.result 0 c.new.result)
    c.drain_told.result c.told.result c.in-Ok.ensures c.shown-now.ensures c.set_reading.ensures (ap (drained_line c.args.node c.shown-now.result 0) c.new.ensures) c.drain_told.ensures c.told.ensures

pub returns-in-Err : goal.returns-in-Err
returns-in-Err c = step_stopped c.args.self.now c.args.world.now c.step.new.self (event.Clock c.args.node c.args.millis) c.in-Err.stop c.in-Err.ensures
