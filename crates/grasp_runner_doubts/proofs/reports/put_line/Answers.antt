use Rattle.grasp_runner.proofs.Passed.{line_passes, line_front}
use Rattle.grasp_runner_doubts.proofs.reports.put_line.Goals as goal

pub returns-in_err-put-2-clause-front : goal.returns-in_err-put-2-clause-front
returns-in_err-put-2-clause-front g c =
    line_front _ _ _ c.args.buffer.now _ _ _ c.bytes.ensures.bytes c.in_ok-put.ensures.passed c.put-2.ensures.front

pub returns-clause-passed : goal.returns-clause-passed
returns-clause-passed g c = line_passes _ _ _ c.args.buffer.now _ _ _ _ c.bytes.ensures.bytes c.in_ok-put.ensures.passed c.in_ok-put-2.ensures.passed

pub returns-clause-front : goal.returns-clause-front
returns-clause-front g c = line_front _ _ _ c.args.buffer.now _ _ _ c.bytes.ensures.bytes c.in_ok-put.ensures.passed c.put-2.ensures.front
