use Rattle.std.proofs.Common.{◌≡◌, ◌≤◌, ◌+◌, ◌*◌, drop, take, vec_capacity}
use Rattle.grasp_store.specs.Slots.{prefixes_in}
use Rattle.grasp_store.proofs.image.read_entries.Given as goal

abbrev pub invariant-loop-i : goal.invariant-loop-i
invariant-loop-i l = record {
  is : l.list.items ≡ take l.i (prefixes_in l.count (drop (12 + 17 * l.from) l.bytes));
  memory : 4096 ≤ vec_capacity l.list;
}
