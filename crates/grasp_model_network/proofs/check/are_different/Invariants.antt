use Rattle.grasp_model_network.specs.Checks.{AreNewBelow}
use Rattle.grasp_model_network.proofs.check.are_different.Given as goal

-- those so far differ
abbrev pub invariant-loop-place : goal.invariant-loop-place
invariant-loop-place l = AreNewBelow l.line l.place
