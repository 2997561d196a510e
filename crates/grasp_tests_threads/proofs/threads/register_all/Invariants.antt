use Rattle.grasp_shared.specs.Handles.{IsPassOf}
use Rattle.grasp_tests_threads.proofs.threads.register_all.Given as goal

abbrev pub invariant-loop-i : goal.invariant-loop-i
invariant-loop-i g l = IsPassOf l.shared l.pass
