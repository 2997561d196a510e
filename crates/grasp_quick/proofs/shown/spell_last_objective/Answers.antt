use Rattle.std.proofs.Common.{◌≡◌, ◌+◌, arith}
use Rattle.grasp_quick.proofs.Spelled.{found_is}
use Rattle.grasp_quick.proofs.Sequence.{objective_last}
use Rattle.grasp_quick.proofs.shown.spell_last_objective.Goals as goal

pub returns-in-Some-eq1 : goal.returns-in-Some-eq1
returns-in-Some-eq1 c =
    let e : c.args.count ≡ 1 + c.args.before = omega (arith, c.in-Some-eq1.ensures, c.in-Some-eq1.field-0-test) in
    found_is _ _ c.spell_objective.result c.spell_objective.ensures (λ rest h. objective_last c.args.count c.args.before c.args.bytes.now rest.now c.args.line.now c.spell_objective.new.line e h)
