use Rattle.grasp_service_visits.proofs.Visiting.{takes_in}
use Rattle.grasp_service_visits.specs.Desks.{desk_told}
use Rattle.grasp_service_visits.proofs.desk_visits.take_visit.Goals as goal

pub returns : goal.returns
returns g c =
    let e = c.visiting-visiting.ensures in
    takes_in c.take_in-taken.result _ _ _ _ _ _ _ _ (desk_told g.D.Desk c.args.desk.now)
    (desk_told g.D.Desk c.visiting-visiting.new.self) _ c.visiting-visiting.result c.take_in-taken.ensures
    e.stays_open e.planned e.asked e.gave e.told e.next e.never_falls
