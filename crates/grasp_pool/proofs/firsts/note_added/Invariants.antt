use Rattle.std.proofs.Common.{◌≡◌, ℕ, ◌<◌, ◌≤◌, length, slice_index_or, Option}
use Rattle.grasp_types.specs.Prefix.{AddressBlock as Prefix}
use Rattle.grasp_pool.specs.Parts.{earlier_of}
use Rattle.grasp_pool.proofs.firsts.note_added.Given as goal

abbrev pub invariant-loop-n : goal.invariant-loop-n
invariant-loop-n l = record {
  size : length l.firsts.items ≡ length l.initial.firsts.items;
  below : (k : ℕ) (d : Option Prefix) → k < l.prefix.length → slice_index_or l.firsts.items k d ≡ slice_index_or l.initial.firsts.items k d;
  done : (k : ℕ) (d : Option Prefix) → l.prefix.length ≤ k → k < l.n → slice_index_or l.firsts.items k d ≡ earlier_of l.prefix (slice_index_or l.initial.firsts.items k d);
  rest : (k : ℕ) (d : Option Prefix) → l.n ≤ k → slice_index_or l.firsts.items k d ≡ slice_index_or l.initial.firsts.items k d;
}
