use Rattle.std.proofs.Common.{rules, refl}
use Rattle.grasp_types.specs.Address.{locator_item, IsLocator}
use Rattle.grasp_text.specs.Line.{locator_words, all_locator_words}
use Rattle.grasp_quick.proofs.Sequence.{none_yet, one_more, locator_more}
use Rattle.grasp_quick.proofs.locators.spell_locators.Goals as goal

pub loop-count-init : goal.loop-count-init
loop-count-init c = (
  one_more locator_item IsLocator locator_words all_locator_words locator_more 0 c.args.bytes.now c.args.bytes.now c.in_ok-rest.rest.now c.args.line.now c.args.line.now c.spell_locator.new.line
      (none_yet locator_item IsLocator all_locator_words c.args.bytes.now c.args.line.now refl) c.in_ok-rest.ensures,
  search rules,
  search rules,
)

pub loop-count-preserved : goal.loop-count-preserved
loop-count-preserved c = (
  one_more locator_item IsLocator locator_words all_locator_words locator_more c.loop-count.count c.args.bytes.now c.loop-count.rest.now c.in_ok-rest-2.rest.now c.args.line.now c.loop-count.line c.spell_locator-in-loop-count.new.line
      c.loop-count.invariant.0 c.in_ok-rest-2.ensures,
  search rules,
  search rules,
)

pub returns-clause-words : goal.returns-clause-words
returns-clause-words c = c.loop-count.invariant.0
