use Rattle.grasp_service_visits.specs.Desks.{desk_told}
use Rattle.grasp_service_visits.specs.Visits.{TakesSome}
use Rattle.grasp_service_visits.proofs.desk_visits.take_visits.Given as goal

-- what came so far was taken
abbrev pub invariant-loop-ask : goal.invariant-loop-ask
invariant-loop-ask g l = TakesSome l._ask l.initial.core l.initial.house l.initial.seats.items l.initial.out
    (desk_told g.D.Desk l.initial.desk) l.now l.some l.core l.house l.seats.items l.out (desk_told g.D.Desk l.desk)
