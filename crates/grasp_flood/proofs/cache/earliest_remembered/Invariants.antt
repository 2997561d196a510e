use Rattle.std.proofs.Common.{take}
use Rattle.grasp_flood.proofs.Earliest.{RememberedFrom}
use Rattle.grasp_flood.proofs.cache.earliest_remembered.Given as goal

-- the memories before this one end no earlier
abbrev pub invariant-loop-i : goal.invariant-loop-i
invariant-loop-i l = RememberedFrom l.least (take l.i l.memories.entries)
