use Rattle.grasp_model_network.specs.declared.event.Event.TheVariants as event
use Rattle.grasp_audit.proofs.Turning.{drain_answers, stop_answers}
use Rattle.grasp_audit.proofs.answers.drains_so.Goals as goal

pub returns-in-Ok : goal.returns-in-Ok
returns-in-Ok c =
    drain_answers c.args.world.now c.drain.new.self c.args.text.now c.args.line.now c.requires.written c.args.node c.args.max c.in-Ok.outputs c.gives_so.result c.told_or_starved.result
    c.in-Ok.ensures.steps c.in-Ok.ensures.outputs c.gives_so.ensures c.told_or_starved.ensures

pub returns-in-Err : goal.returns-in-Err
returns-in-Err c =
    stop_answers c.args.world.now c.drain.new.self c.args.text.now c.args.line.now c.requires.written (event.Drain c.args.node c.args.max) c.in-Err.stop c.stop_fault.result c.in-Err.ensures.steps c.stop_fault.ensures
