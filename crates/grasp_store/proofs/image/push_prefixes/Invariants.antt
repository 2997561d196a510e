use Rattle.std.proofs.Common.{◌≡◌, ◌≤◌, ◌++◌, ◌*◌, ◌+◌, drop, length, vec_len, vec_capacity}
use Rattle.grasp_store.specs.Slots.{all_prefix_bytes}
use Rattle.grasp_store.proofs.image.push_prefixes.Given as goal

abbrev pub invariant-loop-prefix : goal.invariant-loop-prefix
invariant-loop-prefix l = record {
  is : l.body.items ++ all_prefix_bytes (drop l.prefix-index l.prefixes) ≡ l.initial.body.items ++ all_prefix_bytes l.prefixes;
  room : vec_len l.body + 17 * length (drop l.prefix-index l.prefixes) ≤ vec_capacity l.body;
  capacity : vec_capacity l.initial.body ≤ vec_capacity l.body;
}
