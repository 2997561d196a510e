use Rattle.std.proofs.Common.{ℕ, List, subst}
use Rattle.grasp_control.specs.Places.{IsRequestPlace}
use Rattle.grasp_control.specs.Requests.{IsRequestLine, IsNoRequest}
use Rattle.grasp_service_visits.proofs.Hearing.{request_through, bad_through}
use Rattle.grasp_service_visits.proofs.asking.understand.Goals as goal

pub returns-in-Ok : goal.returns-in-Ok
returns-in-Ok c =
    request_through c.obey-obeyed.result _ _ _ _ _ _ _ _ _ _ c.in-Ok.request
    (subst (λ (l : List ℕ). IsRequestLine l c.in-Ok.request) c.bytes.ensures c.in-Ok.ensures.found) c.obey-obeyed.ensures

pub returns-in-Err-BadLine : goal.returns-in-Err-BadLine
returns-in-Err-BadLine c =
    let none = rw c.in-Err-BadLine.field-0-is at c.in-Err-BadLine.ensures.none in
    let place = rw c.in-Err-BadLine.field-0-is at c.in-Err-BadLine.ensures.place in
    bad_through c.tell_bad.result _ _ _ _ _ _ _ _ c.in-Err-BadLine.at (subst (λ (l : List ℕ). IsNoRequest l) c.bytes.ensures none)
    (subst (λ (l : List ℕ). IsRequestPlace l c.in-Err-BadLine.at) c.bytes.ensures place) c.visitor.ensures c.tell_bad.ensures
