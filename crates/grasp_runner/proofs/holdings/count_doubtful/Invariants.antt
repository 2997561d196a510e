use Rattle.std.proofs.Common.{◌≤◌, length}
use Rattle.grasp_runner.proofs.holdings.count_doubtful.Given as goal

-- the pool has those before this one
abbrev pub invariant-loop-i : goal.invariant-loop-i
invariant-loop-i l = l.i ≤ length l.pool.doubtful
