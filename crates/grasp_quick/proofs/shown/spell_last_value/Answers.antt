use Rattle.std.proofs.Common.{◌≡◌, ◌+◌, arith}
use Rattle.grasp_quick.proofs.Spelled.{found_is, value_last}
use Rattle.grasp_quick.proofs.shown.spell_last_value.Goals as goal

pub returns-in-Some-eq1 : goal.returns-in-Some-eq1
returns-in-Some-eq1 c =
    let e : c.args.count ≡ 1 + c.args.before = omega (arith, c.in-Some-eq1.ensures, c.in-Some-eq1.field-0-test) in
    found_is _ _ c.spell_value.result c.spell_value.ensures (λ rest h. value_last c.args.count c.args.before c.args.bytes.now rest.now c.args.line.now c.spell_value.new.line e h)
