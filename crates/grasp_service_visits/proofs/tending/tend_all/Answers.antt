use Rattle.std.proofs.Common.{◌≡◌, ◌<◌, length, arith}
use Rattle.std.proofs.lemmas.Result.{err_from_is_err_and}
use Rattle.grasp_service_visits.proofs.TendingAll.{tends_none, tends_next, tends_cut, tends_all}
use Rattle.grasp_service_visits.proofs.tending.tend_all.Goals as goal

pub loop-i-init : goal.loop-i-init
loop-i-init c = tends_none c.args.core.now c.args.seats.now c.args.out.now c.args.now

pub loop-i-preserved : goal.loop-i-preserved
loop-i-preserved c =
    let h : c.loop-i.i < length c.loop-i.seats = omega arith in
    tends_next c.loop-i.i c.args.core.now c.loop-i.core c.tend.new.core c.args.seats.now c.loop-i.seats c.args.out.now c.loop-i.out c.tend.new.out c.args.now
    c.index-seats-i.result c.tend.new.seat
    c.loop-i.invariant h c.in_ok-tend.ensures

pub returns-in_err-tend : goal.returns-in_err-tend
returns-in_err-tend c =
    let p = err_from_is_err_and c.from_residual.result c.from_residual.ensures.1 in
    rw p.1 (tends_cut _ _ _ _ _ _ _ _ _ c.loop-i.invariant c.in_err-tend.ensures)

pub returns : goal.returns
returns c =
    let e : c.loop-i.i ≡ length c.args.seats.now = omega arith in
    tends_all c.loop-i.i c.args.core.now c.loop-i.core c.args.seats.now c.loop-i.seats c.args.out.now c.loop-i.out c.args.now c.loop-i.invariant e
