use Rattle.std.proofs.Common.{rules, ◌≡◌, ◌<◌, length, get_or, arith}
use Rattle.grasp_text.proofs.NumberWords.{empty_none, zero_none, digits_answer}
use Rattle.grasp_text.proofs.numbers.number_of_digits.Goals as goal
use Rattle.grasp_text.proofs.numbers.number_of_digits.Goals.{else-word-gt1-via-then-word-gt1+else-word-eq48, else-word-gt1-via-else-word-gt1}

pub returns-then-is_empty-clause-none : goal.returns-then-is_empty-clause-none
returns-then-is_empty-clause-none c = empty_none c.args.word.now (search rules)

pub returns-then-word-eq48-clause-none : goal.returns-then-word-eq48-clause-none
returns-then-word-eq48-clause-none c = zero_none c.args.word.now (search rules) (search rules)

pub returns-clause-some : goal.returns-clause-some
returns-clause-some c =
    let some : 0 < length c.args.word.now = search rules in
    let one : get_or c.args.word.now 0 0 ≡ 48 → length c.args.word.now ≡ 1 = elim c.else-word-gt1.branch [ else-word-gt1-via-then-word-gt1+else-word-eq48 w ↦ λ e. absurd (search rules) | else-word-gt1-via-else-word-gt1 w ↦ λ e. omega (arith, w.if-word-gt1, some) ] in
    digits_answer c.value_of_digits.result c.args.word.now c.value_of_digits.ensures.digits c.value_of_digits.ensures.value c.value_of_digits.ensures.small some one
