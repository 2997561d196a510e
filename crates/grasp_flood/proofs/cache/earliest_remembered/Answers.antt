use Rattle.std.proofs.Common.{◌≤◌, sym, arith}
use Rattle.grasp_flood.proofs.Earliest.{more_from}
use Rattle.grasp_flood.proofs.cache.earliest_remembered.Goals as goal

pub loop-i-preserved : goal.loop-i-preserved
loop-i-preserved c =
    let below : c.min-least.result ≤ c.loop-i.least = omega arith in
    more_from (λ m. c.loop-i.least ≤ m.1) (λ m. c.min-least.result ≤ m.1) c.args.memories.now.entries c.loop-i.i (c.in-Some._flood.now, c.in-Some.end.now) (sym c.in-Some.ensures.entry)
    (λ m h. omega arith) (omega arith) c.loop-i.invariant
