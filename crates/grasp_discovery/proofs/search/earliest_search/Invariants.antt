use Rattle.std.proofs.Common.{take}
use Rattle.grasp_discovery.proofs.Earliest.{SearchesFrom}
use Rattle.grasp_discovery.proofs.search.earliest_search.Given as goal

-- those before this one end no earlier
abbrev pub invariant-loop-search : goal.invariant-loop-search
invariant-loop-search l = SearchesFrom l.least (take l.search-index l.searches)
