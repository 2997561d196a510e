use Rattle.std.proofs.Common.{◌≤◌, subst, arith}
use Rattle.std.proofs.lemmas.List.Elements.{All-more}
use Rattle.grasp_discovery.proofs.Earliest.{cached_before}
use Rattle.grasp_discovery.proofs.cached.CachedLocators.earliest.Goals as goal

pub loop-cached-preserved : goal.loop-cached-preserved
loop-cached-preserved c = (
  omega arith,
  All-more (λ one. c.min-least.result ≤ one.end) _ c.loop-cached.cached-index c.cached-item.result (omega arith)
      (cached_before c.min-least.result c.loop-cached.least _ (omega arith) c.loop-cached.invariant.1)
      (subst (λ one. c.min-least.result ≤ one.end) c.cached-item.is (omega arith)),
)
