use Rattle.grasp_quick.proofs.Spelled.{found_is}
use Rattle.grasp_quick.proofs.MessageLines.{wait_line}
use Rattle.grasp_quick.proofs.kinds.spell_wait.Goals as goal

pub returns : goal.returns
returns c = found_is _ _ c.below-2.result c.below-2.ensures (λ rest h.
    wait_line c.args.count c.args.bytes.now c.in_ok-rest.rest.now rest.now c.args.line.now c.put.new.self c.below.new.line c.below-2.new.line c.if-count-ne3.false c.in_ok-put.ensures c.in_ok-rest.ensures h)
