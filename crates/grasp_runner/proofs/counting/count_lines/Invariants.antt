use Rattle.std.proofs.Common.{take}
use Rattle.grasp_runner.proofs.Counted.{CountsFirst}
use Rattle.grasp_runner.proofs.counting.count_lines.Given as goal

-- the lines before this one were run, and what is reported of them is counted
abbrev pub invariant-loop-i : goal.invariant-loop-i
invariant-loop-i l = CountsFirst l.script.plan (take l.i l.script.lines) l.world l.tally l.i
