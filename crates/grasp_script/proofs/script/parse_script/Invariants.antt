use Rattle.std.proofs.Common.{◌+◌, ◌≤◌, length}
use Rattle.grasp_script.specs.Scripts.{text_lines}
use Rattle.grasp_script.proofs.LinesRead.{LinesRead}
use Rattle.grasp_script.proofs.script.parse_script.Given as goal

abbrev pub invariant-loop-line : goal.invariant-loop-line
invariant-loop-line l = record {
  read : LinesRead l.text (text_lines l.rest) l.plan l.lines l.number;
  room : l.number + length l.rest ≤ length l.text;
}

abbrev pub decreases-loop-line : goal.decreases-loop-line
decreases-loop-line l = length l.rest
