use Rattle.std.proofs.Common.{◌≡◌, [], length}
use Rattle.grasp_record.specs.Grammar.{each_at, flood_read_at}
use Rattle.grasp_record.proofs.answers.read_floods.Given as goal

abbrev pub invariant-loop-alloc : goal.invariant-loop-alloc
invariant-loop-alloc l = each_at flood_read_at l.reads l.words ≡ each_at flood_read_at [] l.fn.words

abbrev pub decreases-loop-alloc : goal.decreases-loop-alloc
decreases-loop-alloc l = length l.words
