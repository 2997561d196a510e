use Rattle.std.proofs.Common.{rules, sym, ◌∙◌, arith}
use Rattle.grasp_quick.proofs.PackedWords.{percent_found}
use Rattle.grasp_quick.proofs.packed.words.behind_percent.Goals as goal

pub returns-clause-found : goal.returns-clause-found
returns-clause-found c =
    percent_found c.args.digits.now c.front_bytes.new.out c.front_bytes.result (search rules) (omega arith) c.front_bytes.ensures.room
    c.front_bytes.ensures.digits
    (sym c.stands_for_itself.ensures ∙ c.if-stands_for_itself.false)
