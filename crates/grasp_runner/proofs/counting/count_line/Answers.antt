use Rattle.grasp_runner.proofs.Counted.{event_counts, event_halts, looks_count}
use Rattle.grasp_runner.proofs.counting.count_line.Goals as goal

pub returns-in-Ok : goal.returns-in-Ok
returns-in-Ok c = event_counts c.args.world.now c.run_event.new.world c.args.line.now.act c.in-Event.event c.in-Ok.report c.args.tally c.with.result c.in-Event.is c.in-Ok.ensures c.with.ensures

pub returns-in-Err : goal.returns-in-Err
returns-in-Err c = event_halts c.args.world.now c.run_event.new.world c.args.line.now.act c.in-Event.event c.args.tally c.in-Err.stop c.stop_fault.result c.in-Event.is c.stop_fault.ensures c.in-Err.ensures

pub returns-in-State : goal.returns-in-State
returns-in-State c = looks_count c.args.world.now c.args.line.now.act _ c.args.tally c.in-State.is
