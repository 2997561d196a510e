use Rattle.grasp_tests_turns.proofs.Two.{opens_two}
use Rattle.grasp_tests_turns.proofs.bench.open.Goals as goal

pub returns-then-check : goal.returns-then-check
returns-then-check c = opens_two c.in_ok-plan.plan c.open.result c.in_ok-plan.ensures c.open.ensures
