use Rattle.grasp_quick.proofs.Spelled.{found_is}
use Rattle.grasp_quick.proofs.MessageLines.{end_line}
use Rattle.grasp_quick.proofs.kinds.spell_end.Goals as goal

pub returns : goal.returns
returns c = found_is _ _ c.spell_verdict.result c.spell_verdict.ensures (λ rest h.
    end_line c.args.count c.args.bytes.now c.in_ok-rest.rest.now rest.now c.args.line.now c.put.new.self c.below.new.line c.spell_verdict.new.line c.if-count-ne3.false c.in_ok-put.ensures c.in_ok-rest.ensures h)
