use Rattle.std.proofs.Common.{◌≡◌, drop}
use Rattle.grasp_pool.specs.Functions.{any_overlaps}
use Rattle.grasp_doubter.proofs.prefixes.any_overlaps.Given as goal

abbrev pub invariant-loop-i : goal.invariant-loop-i
invariant-loop-i l = any_overlaps (drop l.i l.list) l.prefix ≡ any_overlaps l.list l.prefix
