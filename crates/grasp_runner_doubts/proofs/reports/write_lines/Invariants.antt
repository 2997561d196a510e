use Rattle.std.proofs.Common.{◌≤◌, take}
use Rattle.grasp_runner_doubts.specs.Passing.{HasWritten}
use Rattle.grasp_runner_doubts.proofs.reports.write_lines.Given as goal

-- the lines before this one were run, and of their reports a front was written and the rest is held
abbrev pub invariant-loop-i : goal.invariant-loop-i
invariant-loop-i g l = HasWritten l.script.plan (take l.i l.script.lines) l.world (g.K.Sink.written l.fn.sink) (g.K.Sink.written l.sink) l.buffer
    × (g.K.Sink.faults l.fn.sink ≤ g.K.Sink.faults l.sink)
