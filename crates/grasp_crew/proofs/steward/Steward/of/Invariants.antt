use Rattle.std.proofs.Common.{◌≡◌, map, take}
use Rattle.grasp_crew.specs.Trying.{untried}
use Rattle.grasp_crew.proofs.steward.Steward.of.Given as goal

-- a want that was looked at has its tries
abbrev pub invariant-loop-want : goal.invariant-loop-want
invariant-loop-want l = l.tries.items ≡ map (λ w. untried l.pace) (take l._want-index l._want-items)
