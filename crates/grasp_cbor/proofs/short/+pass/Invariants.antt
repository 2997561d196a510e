use Rattle.std.proofs.Common.{◌+◌, ◌*◌, List, ℕ}
use Rattle.grasp_cbor.specs.Minimal.{LeadShortest}
use Rattle.grasp_cbor.proofs.short.+pass.Given as goal

abbrev pub decreases-behind_many : goal.decreases-behind_many
decreases-behind_many l = 3 * l.depth + 2

abbrev pub decreases-behind_one : goal.decreases-behind_one
decreases-behind_one l = 3 * l.depth + 1

abbrev pub decreases-behind_nested : goal.decreases-behind_nested
decreases-behind_nested l = 3 * l.depth

-- what ends the items that are left ends them all
abbrev pub invariant-behind_many-loop-left : goal.invariant-behind_many-loop-left
invariant-behind_many-loop-left l = (end : List ℕ) → LeadShortest l.left l.depth l.rest end → LeadShortest l.fn.count l.depth l.fn.bytes end

abbrev pub decreases-behind_many-loop-left : goal.decreases-behind_many-loop-left
decreases-behind_many-loop-left l = l.left
