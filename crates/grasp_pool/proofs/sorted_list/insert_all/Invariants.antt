use Rattle.std.proofs.Common.{◌≡◌, [], drop, vec_capacity}
use Rattle.grasp_pool.specs.Functions.{add, each}
use Rattle.grasp_pool.proofs.Opening.{IsPut}
use Rattle.grasp_pool.proofs.sorted_list.insert_all.Given as goal

abbrev pub invariant-loop-prefix : goal.invariant-loop-prefix
invariant-loop-prefix l = record {
  so : IsPut l.prefixes l.prefix-index l.list.items;
  is : each add (drop l.prefix-index l.prefixes) l.list.items ≡ each add l.prefixes [];
  capacity : vec_capacity l.list ≡ vec_capacity l.initial.list;
}
