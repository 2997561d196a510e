use Rattle.std.proofs.Common.{◌≡◌, ◌≤◌, take}
use Rattle.grasp_discovery.specs.Discoveries.{least_left, live}
use Rattle.grasp_discovery.proofs.cached.CachedLocators.least_left.Given as goal

-- the least of those before this one
abbrev pub invariant-loop-cached : goal.invariant-loop-cached
invariant-loop-cached l = (l.least ≡ least_left l.now (live l.now (take l.cached-index l.cached-items))) × (1 ≤ l.least)
