use Rattle.std.proofs.Common.{◌≡◌, take}
use Rattle.grasp_core.proofs.queue.Queue.first.Given as goal

-- those before this one were copied
abbrev pub invariant-loop-output : goal.invariant-loop-output
invariant-loop-output l = l.outputs ≡ take l.output-index l.output-items
