use Rattle.std.proofs.Common.{◌≡◌, take}
use Rattle.grasp_discovery.specs.Discoveries.{locators_of}
use Rattle.grasp_discovery.proofs.cached.CachedLocators.locators.Given as goal

-- the locators before this one
abbrev pub invariant-loop-cached : goal.invariant-loop-cached
invariant-loop-cached l = l.locators ≡ locators_of (take l.cached-index l.cached-items)
