use Rattle.grasp_service.proofs.Served.{serves_kept, serves_of, stops_short}
use Rattle.grasp_service.proofs.serve.serve_plan.Goals as goal

pub returns-in-Ok-clause-served : goal.returns-in-Ok-clause-served
returns-in-Ok-clause-served g c = λ e.
    serves_of g.B.Disk.stands g.B.Disk.faults _ _ _ _ _ _ _
    (serves_kept g.B.Disk.stands g.B.Disk.faults _ _ _ _ _ _ _ _ c.in-Ok.ensures (c.serve_begun-end.ensures.kept e))

pub returns-in-Ok-clause-kept : goal.returns-in-Ok-clause-kept
returns-in-Ok-clause-kept g c = λ e. serves_kept g.B.Disk.stands g.B.Disk.faults _ _ _ _ _ _ _ _ c.in-Ok.ensures (c.serve_begun-end.ensures.kept e)

pub returns-in-Ok-clause-stops : goal.returns-in-Ok-clause-stops
returns-in-Ok-clause-stops g c = λ fault e.
    stops_short g.B.Disk.stands g.B.Disk.faults _ _ _ _ _ _ _ _ _ c.in-Ok.ensures (c.serve_begun-end.ensures.stops fault e)
