use Rattle.std.proofs.Common.{◌≡◌, ◌++◌, take}
use Rattle.grasp_service.specs.Plans.{listeners_from}
use Rattle.grasp_service.proofs.crew.add_listeners.Given as goal

-- those so far were added
abbrev pub invariant-loop-place : goal.invariant-loop-place
invariant-loop-place l = l.crew.items ≡ l.initial.crew.items ++ listeners_from 1 (take l.place l.readers)
