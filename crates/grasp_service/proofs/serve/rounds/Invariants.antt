use Rattle.grasp_node_main.specs.Tells.{told, links_told}
use Rattle.grasp_service.specs.Rounds.{Went, outside}
use Rattle.grasp_service_visits.specs.Desks.{desk_told}
use Rattle.grasp_service.proofs.serve.rounds.Given as goal

-- so many rounds were made
abbrev pub invariant-loop : goal.invariant-loop
invariant-loop g l =
    (goal.iterator-loop g).can_next l.iterator' × (goal.iterator-loop g).is_finite l.iterator'
    × Went g.B.Disk.stands g.B.Disk.faults l.initial.service l.initial.shelf
    (outside (told (g.C.Clock.readings l.initial.clock) (links_told g.L.Links l.initial.links)) (desk_told g.D.Desk l.initial.desk))
    l.service l.shelf (outside (told (g.C.Clock.readings l.clock) (links_told g.L.Links l.links)) (desk_told g.D.Desk l.desk))
