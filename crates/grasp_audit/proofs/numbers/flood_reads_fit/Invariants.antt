use Rattle.std.proofs.Common.{take}
use Rattle.std.specs.List.{AllByRecursion}
use Rattle.grasp_audit.specs.Numbers.{FloodReadFits}
use Rattle.grasp_audit.proofs.numbers.flood_reads_fit.Given as goal

abbrev pub invariant-loop-read : goal.invariant-loop-read
invariant-loop-read l = AllByRecursion FloodReadFits (take l.read-index l.reads)
