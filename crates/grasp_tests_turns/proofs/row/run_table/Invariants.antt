use Rattle.grasp_tests_turns.specs.Benches.{StandsForTwo}
use Rattle.grasp_tests_turns.proofs.row.run_table.Given as goal

abbrev pub invariant-loop-line : goal.invariant-loop-line
invariant-loop-line l = StandsForTwo l.world
