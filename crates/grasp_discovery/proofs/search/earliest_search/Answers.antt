use Rattle.std.proofs.Common.{◌≡◌, ◌≤◌, false, subst, arith}
use Rattle.std.proofs.lemmas.List.Elements.{All-more}
use Rattle.grasp_discovery.proofs.Earliest.{searches_before}
use Rattle.grasp_discovery.proofs.search.earliest_search.Goals as goal

pub loop-search-preserved : goal.loop-search-preserved
loop-search-preserved c =
    All-more (λ s. s.over ≡ false → c.earlier-least.result ≤ s.end) c.args.searches.now c.loop-search.search-index c.search-item.result (omega arith)
    (searches_before _ _ _ c.earlier-least.ensures.reading c.loop-search.invariant)
    (subst (λ s. s.over ≡ false → c.earlier-least.result ≤ s.end) c.search-item.is c.earlier-least.ensures.end)
