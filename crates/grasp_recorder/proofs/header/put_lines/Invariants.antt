use Rattle.std.proofs.Common.{◌≤◌}
use Rattle.grasp_script.specs.Scripts.{text_lines}
use Rattle.grasp_recorder.proofs.Headers.{HasPut}
use Rattle.grasp_recorder.proofs.header.put_lines.Given as goal

-- the lines before this one were put into the buffer
abbrev pub invariant-loop-i : goal.invariant-loop-i
invariant-loop-i g l = HasPut (text_lines l.text) l.i l.rest (g.K.Sink.written l.fn.sink) (g.K.Sink.written l.sink) l.buffer
    × (g.K.Sink.faults l.fn.sink ≤ g.K.Sink.faults l.sink)
