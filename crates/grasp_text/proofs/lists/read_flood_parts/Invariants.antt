use Rattle.std.proofs.Common.{◌≡◌, length}
use Rattle.grasp_text.specs.Grammar.{flood_parts_at, parts_at}
use Rattle.grasp_text.proofs.lists.read_flood_parts.Given as goal

abbrev pub invariant-loop-alloc : goal.invariant-loop-alloc
invariant-loop-alloc l = parts_at l.parts l.words ≡ flood_parts_at l.fn.words

abbrev pub decreases-loop-alloc : goal.decreases-loop-alloc
decreases-loop-alloc l = length l.words
