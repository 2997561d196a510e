use Rattle.grasp_types.specs.Address.{locator_item, IsLocator}
use Rattle.grasp_wire.proofs.Straight.{AreRead}
use Rattle.grasp_wire.proofs.direct.locator.read_locators.Given as goal

abbrev pub invariant-loop-i : goal.invariant-loop-i
invariant-loop-i l = AreRead locator_item IsLocator l.held l.i l.bytes l.rest
