use Rattle.grasp_recorder.proofs.Passed.{lines_behind, nothing_behind}
use Rattle.grasp_recorder.proofs.writing.write_lines.Goals as goal

pub returns-in-Ok-clause-written : goal.returns-in-Ok-clause-written
returns-in-Ok-clause-written g c = lines_behind c.args.script.now.plan c.args.script.now.lines _ _ _ _ _ _ c.record_lines.result c.in-Ok.ensures.passed c.record_lines.ensures.written

pub returns-in-Err-clause-written : goal.returns-in-Err-clause-written
returns-in-Err-clause-written g c = nothing_behind c.args.script.now.plan c.args.script.now.lines _ _ _ _ c.in-Err.fault c.in-Err.ensures.front c.in-Err.ensures.stop
