use Rattle.std.proofs.Common.{◌≡◌, length}
use Rattle.grasp_text.specs.Grammar.{answers_at, locators_at}
use Rattle.grasp_text.proofs.lists.read_answers.Given as goal

abbrev pub invariant-loop-alloc : goal.invariant-loop-alloc
invariant-loop-alloc l = locators_at l.locators l.words ≡ answers_at l.fn.words

abbrev pub decreases-loop-alloc : goal.decreases-loop-alloc
decreases-loop-alloc l = length l.words
