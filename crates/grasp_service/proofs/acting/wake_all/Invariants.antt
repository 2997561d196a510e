use Rattle.std.proofs.Common.{◌≡◌, ◌++◌, map, take, drop}
use Rattle.grasp_crew.specs.Servants.{woken}
use Rattle.grasp_service.proofs.acting.wake_all.Given as goal

-- those before this one were woken
abbrev pub invariant-loop-servant : goal.invariant-loop-servant
invariant-loop-servant l = l.crew ≡ map woken (take l.servant-index l.fn.crew) ++ drop l.servant-index l.fn.crew
