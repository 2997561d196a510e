use Rattle.std.proofs.Common.{◌≤◌, take}
use Rattle.grasp_recorder.specs.Passing.{HasRecorded}
use Rattle.grasp_recorder.proofs.writing.record_lines.Given as goal

-- the lines before this one were run, and of what was held and their record lines a front was written and the rest is held
abbrev pub invariant-loop-i : goal.invariant-loop-i
invariant-loop-i g l = HasRecorded l.script.plan (take l.i l.script.lines) l.recorder l.world (g.K.Sink.written l.fn.sink) l.fn.buffer (g.K.Sink.written l.sink) l.buffer
    × (g.K.Sink.faults l.fn.sink ≤ g.K.Sink.faults l.sink)
