use Rattle.grasp_service_visits.specs.Parts.{TendsSome}
use Rattle.grasp_service_visits.proofs.tending.tend_all.Given as goal

-- so many seats were seen to
abbrev pub invariant-loop-i : goal.invariant-loop-i
invariant-loop-i l = TendsSome l.i l.initial.core l.initial.seats l.initial.out l.now l.core l.seats l.out
