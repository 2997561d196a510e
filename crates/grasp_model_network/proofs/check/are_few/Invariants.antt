use Rattle.grasp_model_network.specs.Checks.{AreFew}
use Rattle.grasp_model_network.proofs.check.are_few.Given as goal

-- none so far is on more
abbrev pub invariant-loop-before : goal.invariant-loop-before
invariant-loop-before l = AreFew l.before l.links
