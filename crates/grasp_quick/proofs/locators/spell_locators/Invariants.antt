use Rattle.std.proofs.Common.{◌≤◌, ◌-◌}
use Rattle.grasp_types.specs.Address.{locator_item, IsLocator}
use Rattle.grasp_text.specs.Line.{all_locator_words}
use Rattle.grasp_quick.specs.Spelled.{SpellsMany}
use Rattle.grasp_quick.proofs.locators.spell_locators.Given as goal

abbrev pub invariant-loop-count : goal.invariant-loop-count
invariant-loop-count l = SpellsMany locator_item IsLocator all_locator_words l.count l.bytes l.rest l.fn.line l.line × (1 ≤ l.count) × (l.count ≤ l.most)

abbrev pub decreases-loop-count : goal.decreases-loop-count
decreases-loop-count l = l.most - l.count
