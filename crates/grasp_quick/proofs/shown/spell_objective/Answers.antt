use Rattle.grasp_quick.proofs.Spelled.{found_is, objective_spelled}
use Rattle.grasp_quick.proofs.shown.spell_objective.Goals as goal

pub returns : goal.returns
returns c = found_is _ _ c.spell_last_value.result c.spell_last_value.ensures (λ rest h.
    objective_spelled c.in_ok-count.count c.args.bytes.now c.in_ok-count.rest.now c.in_ok-rest.rest.now c.in_ok-rest-2.rest.now c.in_ok-rest-3.rest.now rest.now
    c.args.line.now c.put.new.self c.spell_text.new.line c.below.new.line c.below-2.new.line c.spell_last_value.new.line
    c.in_ok-count.ensures.some c.in_ok-put.ensures c.in_ok-rest.ensures c.in_ok-rest-2.ensures c.in_ok-rest-3.ensures h)
