use Rattle.std.proofs.Common.{◌≡◌}
use Rattle.grasp_model_network.specs.Setting.{numbers_from}
use Rattle.grasp_simulator.proofs.opening.first_lives.Given as goal

-- those before this one
abbrev pub invariant-loop-before : goal.invariant-loop-before
invariant-loop-before l = l.lives ≡ numbers_from 1 l.before
