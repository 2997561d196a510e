use Rattle.std.proofs.Common.{take}
use Rattle.std.specs.List.{AllByRecursion}
use Rattle.grasp_audit.specs.Numbers.{LocatorFits}
use Rattle.grasp_audit.proofs.numbers.locators_fit.Given as goal

abbrev pub invariant-loop-locator : goal.invariant-loop-locator
invariant-loop-locator l = AllByRecursion LocatorFits (take l.locator-index l.locators)
