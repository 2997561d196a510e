use Rattle.grasp_quick.proofs.Spelled.{found_is}
use Rattle.grasp_quick.proofs.MessageLines.{declined, declined_for}
use Rattle.grasp_quick.proofs.parts.spell_decline.Goals as goal

pub returns-then-count-eq1 : goal.returns-then-count-eq1
returns-then-count-eq1 c = declined c.args.count c.args.bytes.now c.args.line.now c.put.new.self c.if-count-eq1.true c.in_ok-put.ensures

pub returns : goal.returns
returns c = found_is _ _ c.spell_text.result c.spell_text.ensures (λ rest h.
    declined_for c.args.count c.args.bytes.now rest.now c.args.line.now c.put.new.self c.spell_text.new.line c.if-count-ne2.false c.in_ok-put.ensures h)
