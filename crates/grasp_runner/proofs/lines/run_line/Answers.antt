use Rattle.grasp_runner.proofs.Telling.{event_stops, event_tells, look_tells}
use Rattle.grasp_runner.proofs.lines.run_line.Goals as goal

pub returns-in-Err : goal.returns-in-Err
returns-in-Err c = event_stops c.args.world.now c.run_event.new.world c.args.line.now.text c.args.line.now.act c.in-Event.event c.in-Err.stop c.in-Event.is c.in-Err.ensures

pub returns-in-Ok : goal.returns-in-Ok
returns-in-Ok c =
    event_tells c.args.world.now c.run_event.new.world c.args.line.now.text c.args.line.now.act c.in-Event.event c.in-Ok.report c.event_told.result c.in-Event.is c.in-Ok.ensures c.event_told.ensures

pub returns-in-State : goal.returns-in-State
returns-in-State c = look_tells c.args.world.now c.args.line.now.text c.args.line.now.act c.in-State.node c.look.result c.in-State.is c.look.ensures.shows c.look.ensures.memory
