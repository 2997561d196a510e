use Rattle.std.proofs.Common.{take}
use Rattle.grasp_discovery.proofs.Earliest.{EntriesFrom}
use Rattle.grasp_discovery.proofs.entries.earliest_cached.Given as goal

-- those before this one end no earlier
abbrev pub invariant-loop-i : goal.invariant-loop-i
invariant-loop-i l = EntriesFrom l.least (take l.i l.entries.entries)
