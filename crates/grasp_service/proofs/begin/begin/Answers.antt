use Rattle.std.proofs.lemmas.Result.{err_from_is_err_and}
use Rattle.grasp_service.proofs.Openings.{opens_cut}
use Rattle.grasp_service.proofs.begin.begin.Goals as goal

pub returns-in_err-begin_once : goal.returns-in_err-begin_once
returns-in_err-begin_once c =
    let p = err_from_is_err_and c.from_residual.result c.from_residual.ensures.1 in
    rw p.1 (opens_cut _ _ _ _ _ _ _ c.loop-place.invariant c.in_err-begin_once.ensures)
