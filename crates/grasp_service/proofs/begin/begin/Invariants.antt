use Rattle.grasp_service.specs.Openings.{OpensSome}
use Rattle.grasp_service.proofs.begin.begin.Given as goal

-- so many opening calls were made
abbrev pub invariant-loop-place : goal.invariant-loop-place
invariant-loop-place l = OpensSome l.initial.core l.initial.servant l.is_first l.place l.core l.servant
