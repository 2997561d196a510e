use Rattle.std.proofs.Common.{◌≤◌, ◌-◌}
use Rattle.grasp_quick.specs.Packed.{PacksLocators}
use Rattle.grasp_quick.proofs.packed.locators.pack_locators.Given as goal

abbrev pub invariant-loop-count : goal.invariant-loop-count
invariant-loop-count l = PacksLocators l.count l.line l.rest l.fn.bytes l.bytes × (1 ≤ l.count) × (l.count ≤ 16)

abbrev pub decreases-loop-count : goal.decreases-loop-count
decreases-loop-count l = 16 - l.count
