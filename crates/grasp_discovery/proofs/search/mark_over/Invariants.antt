use Rattle.std.proofs.Common.{◌≡◌, ◌++◌, map, take, drop}
use Rattle.grasp_discovery.specs.Discoveries.{after_reading}
use Rattle.grasp_discovery.proofs.search.mark_over.Given as goal

-- those before this one are marked
abbrev pub invariant-loop-search : goal.invariant-loop-search
invariant-loop-search l = l.searches ≡ map (after_reading l.now) (take l.search-index l.fn.searches) ++ drop l.search-index l.fn.searches
