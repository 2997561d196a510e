use Rattle.std.proofs.Common.{◌<◌, ◌≡◌, arith}
use Rattle.std.proofs.lemmas.Result.{err_from_is_err_and}
use Rattle.grasp_service_visits.proofs.Desks.{rests_same}
use Rattle.grasp_service_visits.proofs.Visiting.{takes_none, takes_last, takes_next, takes_full, takes_cut}
use Rattle.grasp_service_visits.specs.Desks.{desk_told}
use Rattle.grasp_service_visits.proofs.desk_visits.take_visits.Goals as goal

pub loop-ask-init : goal.loop-ask-init
loop-ask-init g c = takes_none _ _ _ _ _ _ _ (rests_same (desk_told g.D.Desk c.args.desk.now))

pub returns-then-not-came : goal.returns-then-not-came
returns-then-not-came g c =
    let few : c.loop-ask._ask < 16 = omega arith in
    takes_last _ _ _ _ _ _ _ _ _ _ _ _ _ _ _ _ _ _ _ c.loop-ask.invariant c.in_ok-came.ensures c.if-not-came.true few

pub loop-ask-preserved : goal.loop-ask-preserved
loop-ask-preserved g c = takes_next _ _ _ _ _ _ _ _ _ _ _ _ _ _ _ _ _ _ _ c.loop-ask.invariant c.in_ok-came.ensures c.if-not-came.false

pub returns-in_err-came : goal.returns-in_err-came
returns-in_err-came g c =
    let p = err_from_is_err_and c.from_residual.result c.from_residual.ensures.1 in
    rw p.1 (takes_cut _ _ _ _ _ _ _ _ _ _ _ _ _ _ c.loop-ask.invariant c.in_err-came.ensures)

pub returns : goal.returns
returns g c =
    let full : c.loop-ask._ask ≡ 16 = omega arith in
    takes_full _ _ _ _ _ _ _ _ _ _ _ _ _ c.loop-ask.invariant full
