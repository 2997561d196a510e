use Rattle.std.proofs.Common.{rules, ◌≡◌, get_or, take, eq-eqb, arith}
use Rattle.std.specs.Prelude.{decimal}
use Rattle.grasp_text.specs.Words.{words_of}
use Rattle.grasp_text.proofs.Fronts.{digits_no_blank, number_front}
use Rattle.grasp_text.proofs.words.Words.front_number.Goals as goal
use Rattle.grasp_text.proofs.words.Words.front_number.Goals.{then-end-gt1, else-end-gt1}

pub behind_word-requires-clause-whole : goal.behind_word-requires-clause-whole
behind_word-requires-clause-whole c = digits_no_blank _ c.front_digits-n.ensures.digits

pub returns-clause-found : goal.returns-clause-found
returns-clause-found c =
    let line : c.args.self.now ≡ words_of c.in_ok-rest.rest.now = search rules in
    let one : get_or c.in_ok-rest.rest.now 0 0 ≡ 48 → c.front_digits-n.result.1 ≡ 1 = elim c.if-end-gt1.branch [ then-end-gt1 w ↦ λ zero. absurd (let is = w.value-is in let no = c.if-rest-eq48.false in let yes = eq-eqb _ _ zero in cc) | else-end-gt1 w ↦ λ zero. omega arith ] in
    let word : take c.front_digits-n.result.1 c.in_ok-rest.rest.now ≡ decimal c.front_digits-n.result.0 = number_front c.in_ok-rest.rest.now c.front_digits-n.result.1 c.front_digits-n.result.0 c.front_digits-n.ensures.inside (omega arith) c.front_digits-n.ensures.digits c.front_digits-n.ensures.value (omega arith) one in
    cc c.in_ok-self-inside.ensures
