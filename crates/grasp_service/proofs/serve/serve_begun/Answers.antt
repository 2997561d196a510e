use Rattle.grasp_service.proofs.Served.{stops_begun, stops_at_once}
use Rattle.grasp_service.proofs.serve.serve_begun.Goals as goal

pub returns-in-Ok-clause-stops : goal.returns-in-Ok-clause-stops
returns-in-Ok-clause-stops g c = λ fault e.
    stops_begun g.B.Disk.stands g.B.Disk.faults _ _ _ _ _ _ _ _ _ _ c.deref.ensures.value c.in-Ok.ensures (c.serve_open.ensures.stops fault e)

pub returns-in-Err-clause-stops : goal.returns-in-Err-clause-stops
returns-in-Err-clause-stops g c = λ fault e. stops_at_once g.B.Disk.stands g.B.Disk.faults _ _ _ _ _ _ _ _ fault c.deref.ensures.value c.in-Err.ensures e
