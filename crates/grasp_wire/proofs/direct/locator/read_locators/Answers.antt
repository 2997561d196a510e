use Rattle.grasp_types.specs.Address.{locator_item, IsLocator}
use Rattle.grasp_wire.proofs.Straight.{one_more_read}
use Rattle.grasp_wire.proofs.direct.locator.read_locators.Goals as goal

pub loop-i-preserved : goal.loop-i-preserved
loop-i-preserved c =
    rw c.in-Ok-push.ensures.ok (one_more_read locator_item IsLocator c.loop-i.held c.in-Some.next c.loop-i.i c.args.bytes.now c.loop-i.rest.now c.in-Some.after.now c.loop-i.invariant c.in-Some.ensures.leads c.in-Some.ensures.range)
