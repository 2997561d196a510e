use Rattle.grasp_runner_kept.proofs.Telling.{asked_placed, lent_can, lent_placed, plain_runs, plain_starves, plain_stops, plain_told}
use Rattle.grasp_runner_kept.proofs.events.run_event.Goals as goal

pub placed_event-requires : goal.placed_event-requires
placed_event-requires c = lent_can c.args.world.now c.world.result.now c.args.line.now.text c.args.event.now c.world.ensures c.requires.run

pub step-requires-clause-asked : goal.step-requires-clause-asked
step-requires-clause-asked c =
    asked_placed c.args.world.now c.args.line.now.text c.args.event.now c.in-Ok.placed (lent_placed c.args.world.now c.world.result.now c.args.event.now c.in-Ok.placed c.world.ensures c.in-Ok.ensures) c.requires.run

pub plain_of-requires : goal.plain_of-requires
plain_of-requires c =
    plain_told c.args.world.now c.args.line.now.text c.args.event.now c.in-Ok.placed (lent_placed c.args.world.now c.world.result.now c.args.event.now c.in-Ok.placed c.world.ensures c.in-Ok.ensures)
    c.step.new.self c.in-Ok-step.told c.in-Ok-step.ensures.stepped c.requires.run

pub returns-in-Ok-step-clause-runs : goal.returns-in-Ok-step-clause-runs
returns-in-Ok-step-clause-runs c =
    plain_runs c.args.world.now c.args.line.now.text c.args.event.now c.in-Ok.placed (lent_placed c.args.world.now c.world.result.now c.args.event.now c.in-Ok.placed c.world.ensures c.in-Ok.ensures)
    c.step.new.self c.in-Ok-step.told c.in-Ok-step.ensures.stepped c.plain_of.result c.plain_of.ensures

pub returns-in-Err-step-clause-runs : goal.returns-in-Err-step-clause-runs
returns-in-Err-step-clause-runs c =
    plain_stops c.args.world.now c.args.line.now.text c.args.event.now c.in-Ok.placed (lent_placed c.args.world.now c.world.result.now c.args.event.now c.in-Ok.placed c.world.ensures c.in-Ok.ensures)
    c.step.new.self c.in-Err-step.stop c.in-Err-step.ensures.stepped

pub returns-in-Err-clause-runs : goal.returns-in-Err-clause-runs
returns-in-Err-clause-runs c = plain_starves c.args.world.now c.args.line.now.text c.args.event.now
