use Rattle.grasp_service_visits.proofs.TendingAll.{waits_through}
use Rattle.grasp_service_visits.proofs.tending.resume_wait.Goals as goal

pub returns-in-Ok : goal.returns-in-Ok
returns-in-Ok c = waits_through c.settle.result _ _ _ _ _ _ _ _ _ _ _ c.in-Ok.ensures c.visitor-visitor.ensures c.settle.ensures.seat c.settle.ensures.told
