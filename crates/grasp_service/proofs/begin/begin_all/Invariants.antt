use Rattle.grasp_service.specs.Openings.{BeginsSome}
use Rattle.grasp_service.proofs.begin.begin_all.Given as goal

-- so many agents have begun
abbrev pub invariant-loop-i : goal.invariant-loop-i
invariant-loop-i l = BeginsSome l.i l.initial.core l.initial.crew l.core l.crew
