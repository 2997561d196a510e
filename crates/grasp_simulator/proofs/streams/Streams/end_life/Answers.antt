use Rattle.std.proofs.Common.{arith}
use Rattle.std.proofs.lemmas.List.Edits.{map_over_more}
use Rattle.grasp_simulator.specs.StreamParts.{ended_at}
use Rattle.grasp_simulator.proofs.streams.Streams.end_life.Goals as goal

pub loop-stream-preserved : goal.loop-stream-preserved
loop-stream-preserved c =
    rw (c.end_life.ensures, ← c.stream-item.is) (map_over_more (ended_at c.args.life c.args.node c.args.nodes) c.args.self.now.list.items c.loop-stream.stream-items c.loop-stream.stream-index c.stream-item.result (omega arith) c.loop-stream.invariant c.stream-item.is)
