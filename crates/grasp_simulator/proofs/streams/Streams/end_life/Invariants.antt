use Rattle.std.proofs.Common.{◌≡◌, ◌++◌, map, take, drop}
use Rattle.grasp_simulator.specs.StreamParts.{ended_at}
use Rattle.grasp_simulator.proofs.streams.Streams.end_life.Given as goal

-- those before this one have ended
abbrev pub invariant-loop-stream : goal.invariant-loop-stream
invariant-loop-stream l = l.stream-items ≡ map (ended_at l.life l.node l.nodes) (take l.stream-index l.fn.self.list.items) ++ drop l.stream-index l.fn.self.list.items
