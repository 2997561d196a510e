use Rattle.std.proofs.Common.{◌≤◌, sym, arith}
use Rattle.grasp_discovery.proofs.Earliest.{more_from}
use Rattle.grasp_discovery.proofs.memory.earliest_remembered.Goals as goal

pub loop-i-preserved : goal.loop-i-preserved
loop-i-preserved c =
    let below : c.min-least.result ≤ c.loop-i.least = omega arith in
    more_from (λ m. c.loop-i.least ≤ m.1.end) (λ m. c.min-least.result ≤ m.1.end) c.args.memories.now.entries c.loop-i.i (c.in-Some._origin.now, c.in-Some.memory.now) (sym c.in-Some.ensures.entry)
    (λ m h. omega arith) (omega arith) c.loop-i.invariant
