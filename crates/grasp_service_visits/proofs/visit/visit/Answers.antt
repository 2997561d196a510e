use Rattle.std.proofs.Common.{◌≡◌, List, length, ap, arith, subst}
use Rattle.std.specs.Prelude.{MatchResult}
use Rattle.grasp_cbor.specs.declared.memory.OutOfMemory.{OutOfMemory}
use Rattle.grasp_crew.specs.Seats.{SeatState}
use Rattle.grasp_service_visits.proofs.Hearing.{came_taken, left_back, lent_whole}
use Rattle.grasp_service_visits.specs.Calling.{GoesSome}
use Rattle.grasp_service_visits.specs.Visits.{place_of}
use Rattle.grasp_service_visits.specs.Parts.{LeavesAt}
use Rattle.grasp_service_visits.proofs.visit.visit.Goals as goal

pub returns-in-Came : goal.returns-in-Came
returns-in-Came c = came_taken c.come.result _ _ _ _ _ _ _ _ _ c.in-Came.is c.come.ensures

pub returns-in-Left : goal.returns-in-Left
returns-in-Left c =
    let p =
    subst (λ (ss : List SeatState). MatchResult c.leave.result (λ (_ : Unit {0}). LeavesAt
    (place_of c.in-Left.visitor ss) c.args.core.now ss c.args.now c.leave.new.core c.leave.new.seats) (λ
    (_ : OutOfMemory). GoesSome c.args.core.now c.leave.new.core))
    c.deref_mut-in-Left.ensures.value c.leave.ensures in
    let v : length c.deref_mut-in-Left.result.now ≡ length c.args.seats.now.items = ap (λ (l : List SeatState). length l) c.deref_mut-in-Left.ensures.value in
    let e : c.args.seats.now.len ≡ length c.leave.new.seats = omega (arith, c.args.seats.now.ok.0, c.leave.auto.seats, v) in
    left_back c.leave.result _ _ _ _ c.leave.new.seats _ _ _ _ _ c.in-Left.is (lent_whole c.args.seats.now.len c.leave.new.seats _ e) p
