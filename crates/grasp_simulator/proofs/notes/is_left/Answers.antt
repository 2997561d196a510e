use Rattle.std.proofs.Common.{◌∙◌, sym, ap, subst, not, Contains, refl}
use Rattle.std.proofs.lemmas.Bool.{true≢false}
use Rattle.grasp_agent.specs.States.{unsent_of}
use Rattle.grasp_pool.specs.Holdings.{Holding}
use Rattle.grasp_simulator.specs.Restarts.{is_it}
use Rattle.grasp_simulator.proofs.Left.{left_doubtful, left_unreserved, left_act, left_reserved}
use Rattle.grasp_simulator.proofs.notes.is_left.Goals as goal

pub returns-then-is_doubtful : goal.returns-then-is_doubtful
returns-then-is_doubtful c =
    left_doubtful c.args.agent.now c.args.prefix (subst (λ (h : Holding). Contains h.doubtful c.args.prefix) c.pool-pool.ensures.pool (c.is_doubtful.ensures.0 c.if-is_doubtful.true))

pub returns-then-not-is_reserved : goal.returns-then-not-is_reserved
returns-then-not-is_reserved c =
    left_unreserved c.args.agent.now c.args.prefix c.pool-pool.ensures.kept
    (λ d. true≢false (sym (c.is_doubtful.ensures.1 (subst (λ (h : Holding). Contains h.doubtful c.args.prefix) (sym c.pool-pool.ensures.pool) d)) ∙ c.if-is_doubtful.false))
    (λ r. true≢false (sym (c.is_reserved.ensures.1 (subst (λ (h : Holding). Contains h.reserved c.args.prefix) (sym c.pool-pool.ensures.pool) r)) ∙ c.if-not-is_reserved.true))

pub returns-then-is_it : goal.returns-then-is_it
returns-then-is_it c =
    left_act c.args.agent.now c.args.prefix c.pool-pool.ensures.kept
    (λ d. true≢false (sym (c.is_doubtful.ensures.1 (subst (λ (h : Holding). Contains h.doubtful c.args.prefix) (sym c.pool-pool.ensures.pool) d)) ∙ c.if-is_doubtful.false))
    (ap (λ o. is_it o c.args.prefix) (sym c.offering.ensures) ∙ (sym c.is_it.ensures ∙ c.if-is_it.true))

pub returns : goal.returns
returns c =
    ap not c.is_it-2.ensures
    ∙ (ap (λ o. not (is_it o c.args.prefix)) c.unsent.ensures
    ∙ left_reserved c.args.agent.now c.args.prefix (is_it (unsent_of c.args.agent.now.back) c.args.prefix) c.pool-pool.ensures.kept
    (λ d. true≢false (sym (c.is_doubtful.ensures.1 (subst (λ (h : Holding). Contains h.doubtful c.args.prefix) (sym c.pool-pool.ensures.pool) d)) ∙ c.if-is_doubtful.false))
    (subst (λ (h : Holding). Contains h.reserved c.args.prefix) c.pool-pool.ensures.pool (c.is_reserved.ensures.0 c.if-not-is_reserved.false))
    (ap (λ o. is_it o c.args.prefix) (sym c.offering.ensures) ∙ (sym c.is_it.ensures ∙ c.if-is_it.false)) refl)
