use Rattle.std.proofs.Common.{sym, ◌∙◌, arith}
use Rattle.grasp_discovery.proofs.Cache.{kept_there, kept_last, not_kept}
use Rattle.grasp_discovery.proofs.cached.CachedLocators.keep.Goals as goal

pub returns-in-Some : goal.returns-in-Some
returns-in-Some c =
    rw (← c.self.view_is, c.max-cached.ensures)
    (kept_there c.args.locator.now c.args.end c.self.inside.held.items c.in-Some.i c.index_mut-cached.result.now (rw c.self.view_is (sym c.position.ensures ∙ c.in-Some.is)) c.index_mut-cached.ensures.value)

pub returns-in_ok-push-in-None : goal.returns-in_ok-push-in-None
returns-in_ok-push-in-None c =
    rw (← c.self.view_is, c.in_ok-push-in-None.ensures.items, c.in_ok-locator-in-None.ensures)
    (kept_last c.args.locator.now c.args.end c.self.inside.held.items (rw c.self.view_is (sym c.position.ensures ∙ c.in-None.is)) (omega (arith, c.len.ensures)))

pub returns-else-len-lt-MOST_LOCATORS : goal.returns-else-len-lt-MOST_LOCATORS
returns-else-len-lt-MOST_LOCATORS c =
    rw (← c.self.view_is)
    (not_kept c.args.locator.now c.args.end c.self.inside.held.items (rw c.self.view_is (sym c.position.ensures ∙ c.in-None.is)) (omega (arith, c.len.ensures)))
