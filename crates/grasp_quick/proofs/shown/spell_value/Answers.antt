use Rattle.std.proofs.Common.{◌≡◌, ◌+◌, ◌-◌, length, arith}
use Rattle.grasp_quick.proofs.Spelled.{no_longer, value_spelled}
use Rattle.grasp_quick.proofs.shown.spell_value.Goals as goal

pub returns : goal.returns
returns c =
    let bytes = c.args.bytes.now in
    let rest = c.in_ok-rest.rest.now in
    let e : (length bytes - length rest) + length rest ≡ length bytes = omega (arith, no_longer bytes rest c.in_ok-rest.ensures) in
    value_spelled bytes rest c.args.line.now c.put.new.self c.put_hex.new.self (length bytes - length rest) c.in_ok-rest.ensures e c.in_ok-put.ensures c.in_ok-put_hex.ensures
