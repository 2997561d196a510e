use Rattle.std.proofs.Common.{◌≡◌, ◌≤◌, length, take, vec_capacity}
use Rattle.grasp_store.proofs.image.copy_doubtful.Given as goal

abbrev pub invariant-loop-i : goal.invariant-loop-i
invariant-loop-i l = record {
  is : l.list.items ≡ take l.i l.pool.doubtful;
  within : l.i ≤ length l.pool.doubtful;
  memory : 4096 ≤ vec_capacity l.list;
}
