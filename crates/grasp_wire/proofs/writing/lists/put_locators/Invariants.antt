use Rattle.grasp_types.specs.Address.{locator_item, IsLocator}
use Rattle.grasp_wire.specs.declared.writing.put.Full.{Full}
use Rattle.grasp_wire.proofs.Putting.{ArePut}
use Rattle.grasp_wire.proofs.writing.lists.put_locators.Given as goal

abbrev pub invariant-loop-locator : goal.invariant-loop-locator
invariant-loop-locator g l = ArePut Full g.P.Put.Keeps g.P.Put.Counts (Unit {0}) locator_item IsLocator l.locators l.locator-index (g.P.Put.place l.fn.out) (g.P.Put.place l.out)
