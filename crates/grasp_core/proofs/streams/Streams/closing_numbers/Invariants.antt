use Rattle.std.proofs.Common.{◌≡◌, ◌≤◌, length, drop}
use Rattle.grasp_core.proofs.StreamNumbers.{held_numbers}
use Rattle.grasp_core.proofs.streams.Streams.closing_numbers.Given as goal

-- the numbers of those from this place on
abbrev pub invariant-loop-left : goal.invariant-loop-left
invariant-loop-left l = record {
  within : l.left ≤ length l.self.held.items;
  numbers_are : l.numbers.items ≡ held_numbers (drop l.left l.self.held.items);
}

abbrev pub decreases-loop-left : goal.decreases-loop-left
decreases-loop-left l = l.left
