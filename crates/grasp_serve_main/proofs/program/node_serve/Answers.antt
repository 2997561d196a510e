use Rattle.grasp_serve_main.proofs.Serving.{fault_told}
use Rattle.grasp_serve_main.proofs.program.node_serve.Goals as goal

pub returns-clause-store_fault : goal.returns-clause-store_fault
returns-clause-store_fault g c = λ fault e. fault_told g.B.Disk.stands g.B.Disk.faults _ _ _ _ _ _ fault (c.serve_input.ensures.stops fault e)
