use Rattle.grasp_service.specs.Deeds.{ActsSome}
use Rattle.grasp_service.proofs.acting.act_all.Given as goal

-- so many agents acted
abbrev pub invariant-loop-i : goal.invariant-loop-i
invariant-loop-i g l = ActsSome g.B.Disk.stands g.B.Disk.faults l.i l.initial.core l.initial.crew l.initial.shelf l.now l.core l.crew l.shelf
