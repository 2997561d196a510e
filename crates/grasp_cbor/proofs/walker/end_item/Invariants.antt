use Rattle.std.proofs.Common.{◌≡◌, ◌≤◌, length}
use Rattle.grasp_cbor.specs.Step.{finished, levels_in}
use Rattle.grasp_cbor.proofs.walker.end_item.Given as goal

abbrev pub invariant-loop-open : goal.invariant-loop-open
invariant-loop-open l = (l.open ≤ l.depth) × (l.levels ≡ l.fn.levels) × (length l.levels ≡ 16) × (finished (levels_in l.depth l.fn.levels) ≡ finished (levels_in l.open l.fn.levels))

abbrev pub decreases-loop-open : goal.decreases-loop-open
decreases-loop-open l = l.open
