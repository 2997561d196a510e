use Rattle.std.proofs.Common.{◌≡◌, take}
use Rattle.grasp_discovery.specs.Discoveries.{locators_of, live}
use Rattle.grasp_discovery.proofs.cached.CachedLocators.live.Given as goal

-- the live locators before this one
abbrev pub invariant-loop-cached : goal.invariant-loop-cached
invariant-loop-cached l = l.locators ≡ locators_of (live l.now (take l.cached-index l.cached-items))
