use Rattle.std.proofs.lemmas.Result.{err_from_is_err_and}
use Rattle.grasp_service.proofs.Served.{cut_short}
use Rattle.grasp_service.proofs.serve.rounds.Goals as goal

pub returns-in_err-stops : goal.returns-in_err-stops
returns-in_err-stops g c =
    let p = err_from_is_err_and c.from_residual.result c.from_residual.ensures.1 in
    rw (p.1, p.2) (cut_short g.B.Disk.stands g.B.Disk.faults _ _ _ _ _ _ _ _ _ _ c.loop.invariant.2 c.in_err-stops.ensures)
