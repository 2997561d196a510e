use Rattle.std.proofs.Common.{refl}
use Rattle.grasp_runner.proofs.Passed.{line_passes, line_front}
use Rattle.grasp_recorder.proofs.header.put_line.Goals as goal

pub returns-in_err-put-2-clause-front : goal.returns-in_err-put-2-clause-front
returns-in_err-put-2-clause-front g c = line_front _ _ _ c.args.buffer.now _ _ _ refl c.in_ok-put.ensures.passed c.put-2.ensures.front

pub returns-clause-passed : goal.returns-clause-passed
returns-clause-passed g c = line_passes _ _ _ c.args.buffer.now _ _ _ _ refl c.in_ok-put.ensures.passed c.in_ok-put-2.ensures.passed

pub returns-clause-front : goal.returns-clause-front
returns-clause-front g c = line_front _ _ _ c.args.buffer.now _ _ _ refl c.in_ok-put.ensures.passed c.put-2.ensures.front
