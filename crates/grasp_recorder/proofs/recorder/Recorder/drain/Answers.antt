use Rattle.std.proofs.Common.{refl}
use Rattle.grasp_model_network.specs.declared.event.Event.TheVariants as event
use Rattle.grasp_recorder.specs.Taking.{drained_line}
use Rattle.grasp_recorder.proofs.Clocks.{drain_asked, drain_reading, drain_recorded}
use Rattle.grasp_recorder.proofs.Steps.{step_stopped}
use Rattle.grasp_recorder.proofs.recorder.Recorder.drain.Goals as goal

pub drain-requires : goal.drain-requires
drain-requires c = drain_asked c.args.self.now c.args.world.now c.args.node c.args.max c.requires

pub reading-requires : goal.reading-requires
reading-requires c = drain_reading c.args.self.now c.args.world.now c.args.node c.args.max c.requires

pub returns-in-Ok : goal.returns-in-Ok
returns-in-Ok c =
    drain_recorded c.args.self.now c.args.world.now c.drain.new.self c.args.node c.args.max c.reading.result c.in-Ok.outputs (drained_line c.args.node c.reading.result c.args.max c.in-Ok.outputs)
    c.drain_told.result c.told.result c.in-Ok.ensures.steps c.in-Ok.ensures.outputs c.reading.ensures refl c.drain_told.ensures c.told.ensures

pub returns-in-Err : goal.returns-in-Err
returns-in-Err c = step_stopped c.args.self.now c.args.world.now c.drain.new.self (event.Drain c.args.node c.args.max) c.in-Err.stop c.in-Err.ensures.steps
