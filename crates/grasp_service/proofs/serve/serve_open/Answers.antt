use Rattle.std.proofs.Common.{rules}
use Rattle.grasp_service.proofs.Served.{stops_open}
use Rattle.grasp_service.proofs.serve.serve_open.Goals as goal

pub returns-clause-stops : goal.returns-clause-stops
returns-clause-stops g c = λ fault e.
    stops_open g.B.Disk.stands g.B.Disk.faults _ _ _ _ _ _ _ _ _ _ _ _ (c.open_links.ensures.opens (search rules))
    (c.open_desk.ensures.opens (search rules)) (c.serve_on.ensures.stops fault e)
