use Rattle.grasp_runner_doubts.proofs.Telling.{step_stops, step_tells}
use Rattle.grasp_runner_doubts.proofs.lines.run_step.Goals as goal

pub returns-in-Ok : goal.returns-in-Ok
returns-in-Ok c =
    step_tells c.args.world.now c.step.new.self c.args.text.now c.args.event c.in-Ok.report c.doubt_told.result c.in-Ok.ensures c.doubt_told.ensures

pub returns-in-Err : goal.returns-in-Err
returns-in-Err c = step_stops c.args.world.now c.step.new.self c.args.text.now c.args.event c.in-Err.stop c.in-Err.ensures
