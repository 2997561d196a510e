use Rattle.std.proofs.Common.{take}
use Rattle.grasp_flood.proofs.Earliest.{KeptFrom}
use Rattle.grasp_flood.proofs.cache.earliest_kept.Given as goal

-- the entries before this one end no earlier
abbrev pub invariant-loop-i : goal.invariant-loop-i
invariant-loop-i l = KeptFrom l.least (take l.i l.entries.entries)
