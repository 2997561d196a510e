use Rattle.std.proofs.Common.{length}
use Rattle.grasp_script.specs.Scripts.{text_lines}
use Rattle.grasp_script_doubts.proofs.LinesRead.{LinesRead}
use Rattle.grasp_script_doubts.proofs.script.parse_doubt_script.Given as goal

abbrev pub invariant-loop-line : goal.invariant-loop-line
invariant-loop-line l = LinesRead l.text (text_lines l.rest) l.head.plan l.lines l.number

abbrev pub decreases-loop-line : goal.decreases-loop-line
decreases-loop-line l = length l.rest
