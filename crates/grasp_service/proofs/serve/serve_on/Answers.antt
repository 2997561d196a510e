use Rattle.grasp_service.proofs.Served.{served_on}
use Rattle.grasp_service.proofs.serve.serve_on.Goals as goal

pub returns-in-Ok-clause-served : goal.returns-in-Ok-clause-served
returns-in-Ok-clause-served g c = λ e. served_on g.B.Disk.stands g.B.Disk.faults _ _ _ _ _ _ _ _ c.in-Ok.ensures c.end.ensures
