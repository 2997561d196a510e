use Rattle.std.proofs.Common.{rules}
use Rattle.grasp_quick.proofs.PackedLines.{one_locator_packs, more_locators_pack}
use Rattle.grasp_quick.proofs.packed.locators.pack_locators.Goals as goal

pub loop-count-init : goal.loop-count-init
loop-count-init c = (
  one_locator_packs c.args.line.now c.in_ok-rest.rest.now c.args.bytes.now c.pack_locator.new.bytes c.in_ok-rest.ensures,
  search rules,
  search rules,
)

pub loop-count-preserved : goal.loop-count-preserved
loop-count-preserved c = (
  more_locators_pack c.loop-count.count c.args.line.now c.loop-count.rest.now c.in_ok-rest-2.rest.now c.args.bytes.now c.loop-count.bytes
      c.pack_locator-in-loop-count.new.bytes
      c.loop-count.invariant.0 c.in_ok-rest-2.ensures,
  search rules,
  search rules,
)

pub returns-clause-locators : goal.returns-clause-locators
returns-clause-locators c = c.loop-count.invariant.0
