use Rattle.std.proofs.Common.{arith}
use Rattle.std.proofs.lemmas.List.Edits.{map_over_more}
use Rattle.grasp_discovery.specs.Discoveries.{after_reading}
use Rattle.grasp_discovery.proofs.search.mark_over.Goals as goal

pub loop-search-preserved : goal.loop-search-preserved
loop-search-preserved c =
    rw (c.mark.ensures, ← c.search-item.is) (map_over_more (after_reading c.args.now) c.args.searches.now c.loop-search.searches c.loop-search.search-index c.search-item.result (omega arith) c.loop-search.invariant c.search-item.is)
