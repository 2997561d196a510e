use Rattle.std.proofs.Common.{◌≡◌, length}
use Rattle.grasp_text.specs.Grammar.{locator_at}
use Rattle.grasp_record.specs.Grammar.{each_at, as_found, found_at}
use Rattle.grasp_record.proofs.answers.read_found.Given as goal

abbrev pub invariant-loop-alloc : goal.invariant-loop-alloc
invariant-loop-alloc l = as_found (each_at locator_at l.locators l.words) ≡ found_at l.fn.words

abbrev pub decreases-loop-alloc : goal.decreases-loop-alloc
decreases-loop-alloc l = length l.words
