use Rattle.std.proofs.Common.{◌≤◌, take}
use Rattle.grasp_discovery.proofs.Earliest.{CachedFrom}
use Rattle.grasp_discovery.proofs.cached.CachedLocators.earliest.Given as goal

-- those before this one end no earlier
abbrev pub invariant-loop-cached : goal.invariant-loop-cached
invariant-loop-cached l = (l.least ≤ l.reading) × CachedFrom l.least (take l.cached-index l.cached-items)
