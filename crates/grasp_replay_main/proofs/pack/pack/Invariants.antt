use Rattle.std.proofs.Common.{◌≤◌, length}
use Rattle.grasp_replay_main.proofs.Packing.{IsPacking}
use Rattle.grasp_replay_main.proofs.pack.pack.Given as goal

abbrev pub invariant-loop-rest : goal.invariant-loop-rest
invariant-loop-rest g l = IsPacking l.limit l.input l.rest (g.K.Sink.written l.initial.sink) (g.K.Sink.written l.sink) l.buffer l.line
    × (g.K.Sink.faults l.initial.sink ≤ g.K.Sink.faults l.sink)

abbrev pub decreases-loop-rest : goal.decreases-loop-rest
decreases-loop-rest g l = length l.rest
