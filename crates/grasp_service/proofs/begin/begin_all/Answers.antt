use Rattle.std.proofs.Common.{◌<◌, length, arith}
use Rattle.std.proofs.lemmas.Result.{err_from_is_err_and}
use Rattle.grasp_service.proofs.Openings.{begins_cut, begins_next}
use Rattle.grasp_service.proofs.begin.begin_all.Goals as goal

pub returns-in_err-begin : goal.returns-in_err-begin
returns-in_err-begin c =
    let p = err_from_is_err_and c.from_residual.result c.from_residual.ensures.1 in
    rw p.1 (begins_cut _ _ _ _ _ _ c.loop-i.invariant c.in_err-begin.ensures)

pub loop-i-preserved : goal.loop-i-preserved
loop-i-preserved c =
    let h : c.loop-i.i < length c.loop-i.crew = omega arith in
    begins_next c.loop-i.i c.args.core.now c.loop-i.core c.begin.new.core c.args.crew.now c.loop-i.crew c.index-crew-i.result c.begin.new.servant c.loop-i.invariant h c.in_ok-begin.ensures
