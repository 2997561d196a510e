use Rattle.std.proofs.Common.{◌≡◌, ℕ, ◌<◌, ◌≤◌, length, slice_index_or, Option}
use Rattle.grasp_types.specs.Prefix.{AddressBlock as Prefix}
use Rattle.grasp_pool.specs.Parts.{IsFirstOf}
use Rattle.grasp_pool.proofs.firsts.note_removed.Given as goal

abbrev pub invariant-loop-n : goal.invariant-loop-n
invariant-loop-n l = record {
  bound : l.n ≤ 129;
  size : length l.firsts.items ≡ 129;
  from : l.from ≤ l.at;
  within : l.at ≤ length l.entries;
  passed : (k : ℕ) (d : Prefix) → l.from ≤ k → k < l.at → l.n ≤ (slice_index_or l.entries k d).length;
  done : (k : ℕ) (d : Option Prefix) → l.n ≤ k → k < 129 → IsFirstOf l.entries k (slice_index_or l.firsts.items k d);
  rest : (k : ℕ) (d : Option Prefix) → k < l.n → slice_index_or l.firsts.items k d ≡ slice_index_or l.initial.firsts.items k d;
}

abbrev pub decreases-loop-n : goal.decreases-loop-n
decreases-loop-n l = l.n
