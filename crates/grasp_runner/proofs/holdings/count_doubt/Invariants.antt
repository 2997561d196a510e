use Rattle.std.proofs.Common.{◌≤◌, ◌*◌, length}
use Rattle.grasp_runner.proofs.Holding.{CountsBefore}
use Rattle.grasp_runner.proofs.holdings.count_doubt.Given as goal

-- the nodes before this one are counted
abbrev pub invariant-loop-before : goal.invariant-loop-before
invariant-loop-before l = CountsBefore l.world (λ agent. length agent.pool.doubtful) l.before l.doubt × (l.doubt ≤ 4096 * l.before)
