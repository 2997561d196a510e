use Rattle.grasp_quick.proofs.Spelled.{found_is}
use Rattle.grasp_quick.proofs.MessageLines.{invalid_line}
use Rattle.grasp_quick.proofs.kinds.spell_invalid.Goals as goal

pub returns : goal.returns
returns c = found_is _ _ c.spell_last_value.result c.spell_last_value.ensures (λ rest h.
    invalid_line c.args.count c.args.bytes.now c.in_ok-rest.rest.now rest.now c.args.line.now c.put.new.self c.below.new.line c.spell_last_value.new.line c.in_ok-put.ensures c.in_ok-rest.ensures h)
