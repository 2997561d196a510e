use Rattle.grasp_service_visits.proofs.Hearing.{obeyed_through}
use Rattle.grasp_service_visits.proofs.asking.obey.Goals as goal

pub returns : goal.returns
returns c =
    obeyed_through c.tell_answer-told.result _ _ _ _ _ _ _ _ _ _ _ _ _ c.in_ok-answer.ensures c.visitor-visitor.ensures c.tell_answer-told.ensures.told
