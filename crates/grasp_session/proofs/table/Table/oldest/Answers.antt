use Rattle.std.proofs.Common.{◌≡◌, ◌-◌, true, Some, None, sym, ◌∙◌, subst, arith}
use Rattle.grasp_session.specs.Stands.{IsLive, kept_at, fits_at}
use Rattle.grasp_session.proofs.Oldest.{IsBest, best_none, best_more, best_first, if_some, live_if}
use Rattle.grasp_session.proofs.table.Table.oldest.Goals as goal

pub loop-place-init : goal.loop-place-init
loop-place-init c = best_none c.args.wanted c.args.self.now.places c.len-place.result (sym c.len-place.ensures.value ∙ c.len-place.ensures.all) c.len-place.ensures.all

pub loop-place-preserved-in-Some : goal.loop-place-preserved-in-Some
loop-place-preserved-in-Some c =
    subst (IsBest c.args.wanted c.args.self.now.places (c.loop-place.place - 1)) (sym c.older-best.ensures)
    (best_more c.args.wanted c.args.self.now.places c.loop-place.place (c.loop-place.place - 1) (Some c.in-Some.session.now) c.loop-place.best c.loop-place.invariant (omega (arith, c.loop-place-test.true)) (sym c.in-Some.ensures.session))

pub loop-place-preserved : goal.loop-place-preserved
loop-place-preserved c =
    best_more c.args.wanted c.args.self.now.places c.loop-place.place (c.loop-place.place - 1) None c.loop-place.best c.loop-place.invariant (omega (arith, c.loop-place-test.true)) (sym c.in_default.ensures.session)

pub returns-clause-oldest : goal.returns-clause-oldest
returns-clause-oldest c = best_first c.args.wanted c.args.self.now.places c.loop-place.best (subst (λ p. IsBest c.args.wanted c.args.self.now.places p c.loop-place.best) (omega (arith, c.loop-place-test.false)) c.loop-place.invariant)

pub returns-clause-wanted : goal.returns-clause-wanted
returns-clause-wanted c = if_some (λ handle. fits_at c.args.wanted (kept_at c.args.self.now.places handle) ≡ true) c.loop-place.best c.loop-place.invariant.wanted

pub returns-clause-live : goal.returns-clause-live
returns-clause-live c = if_some (λ handle. IsLive c.args.self.now handle) c.loop-place.best (λ h e. live_if c.args.wanted (kept_at c.args.self.now.places h) (c.loop-place.invariant.wanted h e))
