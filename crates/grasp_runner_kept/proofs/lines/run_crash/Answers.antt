use Rattle.grasp_runner_kept.proofs.Telling.{asked_crash, crash_runs, crash_stops, crash_told}
use Rattle.grasp_runner_kept.proofs.lines.run_crash.Goals as goal

pub step-requires-clause-asked : goal.step-requires-clause-asked
step-requires-clause-asked c = asked_crash c.args.world.now c.args.world.now c.args.text.now c.args.node c.args.calls c.args.left c.requires.run

pub image_of-requires : goal.image_of-requires
image_of-requires c = crash_told c.args.world.now c.step.new.self c.args.text.now c.args.node c.args.calls c.args.left c.in-Ok.told c.in-Ok.ensures.stepped c.requires.run

pub returns-in-Ok-clause-runs : goal.returns-in-Ok-clause-runs
returns-in-Ok-clause-runs c =
    crash_runs c.args.world.now c.step.new.self c.args.text.now c.args.node c.args.calls c.args.left c.in-Ok.told c.in-Ok.ensures.stepped c.image_of.result c.image_of.ensures

pub returns-in-Err-clause-runs : goal.returns-in-Err-clause-runs
returns-in-Err-clause-runs c = crash_stops c.args.world.now c.step.new.self c.args.text.now c.args.node c.args.calls c.args.left c.in-Err.stop c.in-Err.ensures.stepped
