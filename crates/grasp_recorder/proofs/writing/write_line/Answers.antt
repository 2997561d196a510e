use Rattle.grasp_recorder.proofs.Passed.{line_tried, line_stopped}
use Rattle.grasp_recorder.proofs.writing.write_line.Goals as goal

pub returns-in-Ok-clause-written : goal.returns-in-Ok-clause-written
returns-in-Ok-clause-written g c =
    line_tried c.args.recorder.now c.line.new.self c.args.world.now c.line.new.world c.args.line.now c.in-Ok.written _ _ _ _ c.put_text.result c.in-Ok.ensures c.put_text.ensures.passed c.put_text.ensures.front c.put_text.ensures.stop

pub returns-in-Err-clause-written : goal.returns-in-Err-clause-written
returns-in-Err-clause-written g c = line_stopped c.args.recorder.now c.line.new.self c.args.world.now c.line.new.world c.args.line.now _ _ c.in-Err.stop c.stop_fault.result c.in-Err.ensures c.stop_fault.ensures
