use Rattle.std.proofs.Common.{take}
use Rattle.grasp_discovery.proofs.Earliest.{MemoriesFrom}
use Rattle.grasp_discovery.proofs.memory.earliest_remembered.Given as goal

-- those before this one end no earlier
abbrev pub invariant-loop-i : goal.invariant-loop-i
invariant-loop-i l = MemoriesFrom l.least (take l.i l.memories.entries)
