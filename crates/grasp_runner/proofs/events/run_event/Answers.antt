use Rattle.grasp_runner.proofs.Placing.{asked_placed, runs_nothing, runs_placed}
use Rattle.grasp_runner.proofs.events.run_event.Goals as goal

pub step-requires : goal.step-requires
step-requires c = asked_placed c.args.world.now c.args.event.now c.in-Ok.placed c.requires c.in-Ok.ensures

pub returns-in-Ok : goal.returns-in-Ok
returns-in-Ok c = runs_placed c.args.world.now c.step.new.self c.args.event.now c.in-Ok.placed c.step.result c.in-Ok.ensures c.step.ensures

pub returns-in-Err : goal.returns-in-Err
returns-in-Err c = runs_nothing c.args.world.now c.args.event.now
