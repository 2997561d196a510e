use Rattle.std.proofs.Common.{◌≤◌, ◌*◌, length}
use Rattle.grasp_runner.proofs.Holding.{CountsBefore}
use Rattle.grasp_runner.proofs.holdings.count_held.Given as goal

-- the nodes before this one are counted
abbrev pub invariant-loop-before : goal.invariant-loop-before
invariant-loop-before l = CountsBefore l.world (λ agent. length agent.pool.free) l.before l.held × (l.held ≤ 4096 * l.before)
