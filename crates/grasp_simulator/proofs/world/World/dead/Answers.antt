use Rattle.std.proofs.Common.{◌∙◌, sym, subst, Contains}
use Rattle.grasp_pool.proofs.Meeting.{false_misses}
use Rattle.grasp_pool.specs.Holdings.{Holding}
use Rattle.grasp_simulator.proofs.Dying.{undoubted, unasked, accepted_tells, dead_tells}
use Rattle.grasp_simulator.proofs.world.World.dead.Goals as goal

pub returns-then-not-is_doubtful : goal.returns-then-not-is_doubtful
returns-then-not-is_doubtful c =
    undoubted c.args.self.now c.args.node c.args.prefix c.seat.result.now c.seat.ensures
    (λ d. false_misses c.is_doubtful.result c.if-not-is_doubtful.true (c.is_doubtful.ensures.1 (subst (λ (h : Holding). Contains h.doubtful c.args.prefix) (sym c.pool.ensures.pool) d)))

pub returns-in_default : goal.returns-in_default
returns-in_default c = unasked c.args.self.now c.args.node c.args.prefix c.seat.result.now c.seat.ensures c.grounds_hold.ensures (sym c.asker.ensures ∙ c.in_default.is)

pub returns-then-has_accepted : goal.returns-then-has_accepted
returns-then-has_accepted c =
    accepted_tells c.args.self.now c.args.node c.args.prefix c.seat.result.now c.seat.ensures c.grounds_hold.ensures c.in-Some.asker (sym c.asker.ensures ∙ c.in-Some.is) (sym c.has_accepted.ensures ∙ c.if-has_accepted.true)

pub returns : goal.returns
returns c =
    dead_tells c.args.self.now c.args.node c.args.prefix c.seat.result.now c.seat.ensures c.grounds_hold.ensures c.in-Some.asker c.is_asking.result
    (subst (λ (h : Holding). Contains h.doubtful c.args.prefix) c.pool.ensures.pool (c.is_doubtful.ensures.0 c.if-not-is_doubtful.false)) (sym c.asker.ensures ∙ c.in-Some.is) (sym c.has_accepted.ensures ∙ c.if-has_accepted.false)
    c.is_asking.ensures
