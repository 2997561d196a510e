use Rattle.std.proofs.Common.{◌≡◌, take}
use Rattle.grasp_discovery.specs.Discoveries.{keep_locators}
use Rattle.grasp_discovery.proofs.cached.CachedLocators.keep_all.Given as goal

-- the locators before this one are kept
abbrev pub invariant-loop-locator : goal.invariant-loop-locator
invariant-loop-locator l = l.self ≡ keep_locators l.end l.fn.self (take l.locator-index l.locator-items)
