use Rattle.grasp_runner_kept.proofs.Telling.{can_event, can_look, event_stops, event_tells, look_tells}
use Rattle.grasp_runner_kept.proofs.lines.run_plain.Goals as goal

pub run_event-requires-clause-run : goal.run_event-requires-clause-run
run_event-requires-clause-run c = can_event c.args.world.now c.args.world.now c.args.line.now c.in-Event.event c.in-Event.is c.requires.run

pub returns-in-Ok-clause-runs : goal.returns-in-Ok-clause-runs
returns-in-Ok-clause-runs c =
    event_tells c.args.world.now c.run_event.new.world c.args.line.now c.in-Event.event c.in-Event.is c.in-Ok.report c.event_told.result c.in-Ok.ensures.runs c.event_told.ensures

pub returns-in-Err-clause-runs : goal.returns-in-Err-clause-runs
returns-in-Err-clause-runs c = event_stops c.args.world.now c.run_event.new.world c.args.line.now c.in-Event.event c.in-Event.is c.in-Err.stop c.in-Err.ensures.runs

pub look-requires : goal.look-requires
look-requires c = can_look c.args.world.now c.args.world.now c.args.line.now c.in-State.node c.in-State.is c.requires.run

pub returns-in-State-clause-runs : goal.returns-in-State-clause-runs
returns-in-State-clause-runs c = look_tells c.args.world.now c.args.world.now c.args.line.now c.in-State.node c.in-State.is c.look.result c.look.ensures
