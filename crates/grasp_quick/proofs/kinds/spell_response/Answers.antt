use Rattle.std.proofs.Common.{◌-◌, arith}
use Rattle.grasp_quick.proofs.Spelled.{found_is}
use Rattle.grasp_quick.proofs.MessageLines.{response_line}
use Rattle.grasp_quick.proofs.kinds.spell_response.Goals as goal

pub returns : goal.returns
returns c = found_is _ _ c.spell_last_objective.result c.spell_last_objective.ensures (λ rest h.
    response_line c.args.count (c.args.count - 4) c.in_ok-used.used c.args.bytes.now c.in_ok-rest.rest.now c.in_ok-rest-2.rest.now c.in_ok-rest-3.rest.now c.in_ok-used.rest.now rest.now c.args.line.now c.put.new.self c.below.new.line c.spell_address.new.line c.below-2.new.line c.spell_answer.new.line c.spell_last_objective.new.line
    (omega (arith, c.if-count-lt4.false)) c.in_ok-put.ensures c.in_ok-rest.ensures c.in_ok-rest-2.ensures c.in_ok-rest-3.ensures c.in_ok-used.ensures h)
