use Rattle.std.proofs.Common.{sym, subst}
use Rattle.std.specs.Prelude.{IsTrue, is_some}
use Rattle.grasp_pool.specs.Functions.{around}
use Rattle.grasp_pool.specs.Holdings.{Holding}
use Rattle.grasp_pool.proofs.Meeting.{false_misses}
use Rattle.grasp_simulator.specs.Images.{IsIn}
use Rattle.grasp_simulator.proofs.ImageParts.{had_free, had_act, had_unsent, one_kind}
use Rattle.grasp_simulator.proofs.images.is_wholly_had.Goals as goal

pub returns-then-is_free-clause-had : goal.returns-then-is_free-clause-had
returns-then-is_free-clause-had c = λ t.
    had_free c.args.agent.now c.args.prefix c.pool.ensures.kept.pool c.address-address.ensures.valid
    (subst (λ (h : Holding). IsTrue (is_some (around h.free c.args.prefix))) c.pool.ensures.pool (subst IsTrue c.is_free.ensures c.if-is_free.true))

pub returns-then-is_in-clause-had : goal.returns-then-is_in-clause-had
returns-then-is_in-clause-had c = λ t. had_act c.args.agent.now c.args.prefix (subst (λ o. IsIn o c.args.prefix) c.offering.ensures (c.is_in.ensures.0 c.if-is_in.true))

pub returns-clause-had : goal.returns-clause-had
returns-clause-had c = λ t. had_unsent c.args.agent.now c.args.prefix (subst (λ o. IsIn o c.args.prefix) c.unsent.ensures (c.is_in-2.ensures.0 t))

pub returns-clause-one : goal.returns-clause-one
returns-clause-one c = λ most had.
    c.is_in-2.ensures.1
    (subst (λ o. IsIn o c.args.prefix) (sym c.unsent.ensures)
    (one_kind c.args.agent.now c.args.prefix c.pool.ensures.kept.pool c.address-address.ensures.valid most had
    (λ free. false_misses c.is_free.result c.if-is_free.false (subst IsTrue (sym c.is_free.ensures) (subst (λ (h : Holding). IsTrue (is_some (around h.free c.args.prefix))) (sym c.pool.ensures.pool) free)))
    (λ within. false_misses c.is_in.result c.if-is_in.false (c.is_in.ensures.1 (subst (λ o. IsIn o c.args.prefix) (sym c.offering.ensures) within)))))
