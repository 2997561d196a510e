use Rattle.std.proofs.Common.{◌≤◌, length}
use Rattle.grasp_replay_main.proofs.Showing.{IsShowing}
use Rattle.grasp_replay_main.proofs.show.show.Given as goal

abbrev pub invariant-loop-rest : goal.invariant-loop-rest
invariant-loop-rest g l = IsShowing l.limit l.input l.rest (g.K.Sink.written l.initial.sink) (g.K.Sink.written l.sink) l.buffer
    × (g.K.Sink.faults l.initial.sink ≤ g.K.Sink.faults l.sink)

abbrev pub decreases-loop-rest : goal.decreases-loop-rest
decreases-loop-rest g l = length l.rest
