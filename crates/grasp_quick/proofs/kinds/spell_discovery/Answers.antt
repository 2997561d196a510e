use Rattle.grasp_quick.proofs.Spelled.{found_is}
use Rattle.grasp_quick.proofs.MessageLines.{discovery_line}
use Rattle.grasp_quick.proofs.kinds.spell_discovery.Goals as goal

pub returns : goal.returns
returns c = found_is _ _ c.spell_objective.result c.spell_objective.ensures (λ rest h.
    discovery_line c.args.count c.args.bytes.now c.in_ok-rest.rest.now c.in_ok-rest-2.rest.now rest.now c.args.line.now c.put.new.self c.below.new.line c.spell_address.new.line c.spell_objective.new.line
    c.if-count-ne4.false c.in_ok-put.ensures c.in_ok-rest.ensures c.in_ok-rest-2.ensures h)
