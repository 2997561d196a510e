use Rattle.grasp_runner_doubts.proofs.Passed.{line_tried, line_stopped}
use Rattle.grasp_runner_doubts.proofs.reports.write_line.Goals as goal

pub returns-in-Ok-clause-written : goal.returns-in-Ok-clause-written
returns-in-Ok-clause-written g c =
    line_tried c.args.world.now c.run_doubt_line.new.world c.args.line.now c.in-Ok.told _ _ _ _ c.put_line.result c.in-Ok.ensures
    c.put_line.ensures.passed c.put_line.ensures.front c.put_line.ensures.stop

pub returns-in-Err-clause-written : goal.returns-in-Err-clause-written
returns-in-Err-clause-written g c =
    line_stopped c.args.world.now c.run_doubt_line.new.world c.args.line.now _ _ c.in-Err.stop c.stop_fault.result c.in-Err.ensures
    c.stop_fault.ensures
