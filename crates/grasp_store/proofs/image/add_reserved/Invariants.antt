use Rattle.std.proofs.Common.{◌≡◌, ◌≤◌, ◌+◌, length, drop, vec_capacity}
use Rattle.grasp_pool.specs.Functions.{add, each}
use Rattle.grasp_store.proofs.Images.{IsAddable}
use Rattle.grasp_store.proofs.image.add_reserved.Given as goal

abbrev pub invariant-loop-i : goal.invariant-loop-i
invariant-loop-i l = record {
  is : each add (drop l.i l.pool.reserved) l.list.items ≡ each add l.pool.reserved l.pool.doubtful;
  addable : IsAddable (drop l.i l.pool.reserved) l.list.items;
  within : l.i ≤ length l.pool.reserved;
  size : length l.list.items ≡ length l.pool.doubtful + l.i;
  memory : 4096 ≤ vec_capacity l.list;
}
