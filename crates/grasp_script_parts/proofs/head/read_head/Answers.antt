use Rattle.std.proofs.Common.{drop}
use Rattle.grasp_script.specs.declared.script.Head.{Head}
use Rattle.grasp_script_parts.proofs.Heads.{one_head}
use Rattle.grasp_script_parts.proofs.Starting.{told_refused}
use Rattle.grasp_script_parts.proofs.head.read_head.Goals as goal

pub returns-in-Ok-clause-only : goal.returns-in-Ok-clause-only
returns-in-Ok-clause-only c = λ plan rest number h.
    one_head c.args.text.now (drop c.in-Ok.head.used c.args.text.now) rest c.in-Ok.head.plan plan c.in-Ok.head.lines number c.in-Ok.ensures.read h

pub returns-in-Err-BadScript-clause-bad : goal.returns-in-Err-BadScript-clause-bad
returns-in-Err-BadScript-clause-bad c = told_refused Head c.args.text.now c.head_fault.result c.head_fault.ensures
