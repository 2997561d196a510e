use Rattle.std.proofs.Common.{◌+◌, ◌≤◌, length}
use Rattle.grasp_quick.proofs.packed.words.count_unescaped.Given as goal

abbrev pub invariant-loop-after : goal.invariant-loop-after
invariant-loop-after l = l.count + length l.rest ≤ length l.escaped

abbrev pub decreases-loop-after : goal.decreases-loop-after
decreases-loop-after l = length l.rest
