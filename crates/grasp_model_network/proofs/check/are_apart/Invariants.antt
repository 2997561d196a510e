use Rattle.grasp_model_network.specs.Checks.{AreApartBelow}
use Rattle.grasp_model_network.proofs.check.are_apart.Given as goal

-- those so far are apart
abbrev pub invariant-loop-place : goal.invariant-loop-place
invariant-loop-place l = AreApartBelow l.roots l.place
