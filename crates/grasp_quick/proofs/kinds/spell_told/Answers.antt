use Rattle.grasp_quick.proofs.Spelled.{found_is}
use Rattle.grasp_quick.proofs.MessageLines.{told_parts}
use Rattle.grasp_quick.proofs.kinds.spell_told.Goals as goal

pub returns : goal.returns
returns c = found_is _ _ c.spell_objective.result c.spell_objective.ensures (λ rest h.
    told_parts c.args.count c.args.bytes.now c.in_ok-rest.rest.now rest.now c.args.line.now c.below.new.line c.spell_objective.new.line c.if-count-ne3.false c.in_ok-rest.ensures h)
