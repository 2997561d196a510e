use Rattle.std.proofs.Common.{◌≡◌, take}
use Rattle.grasp_crew.proofs.trying.with_untried.Given as goal

-- those so far were taken over
abbrev pub invariant-loop-tried : goal.invariant-loop-tried
invariant-loop-tried l = l.all.items ≡ take l.tried-index l.tries
