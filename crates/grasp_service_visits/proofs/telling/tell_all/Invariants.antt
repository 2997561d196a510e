use Rattle.std.proofs.Common.{take}
use Rattle.grasp_service_visits.specs.Desks.{TellsOnly}
use Rattle.grasp_service_visits.specs.Desks.{desk_told}
use Rattle.grasp_service_visits.proofs.telling.tell_all.Given as goal

-- the lines so far were told
abbrev pub invariant-loop-line : goal.invariant-loop-line
invariant-loop-line g l = TellsOnly (desk_told g.D.Desk l.initial.desk) (take l.line-index l.lines) (desk_told g.D.Desk l.desk)
