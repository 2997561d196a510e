use Rattle.grasp_quick.proofs.Spelled.{found_is}
use Rattle.grasp_quick.proofs.Sequence.{part_spelled}
use Rattle.grasp_quick.proofs.parts.spell_flood_part.Goals as goal

pub returns : goal.returns
returns c = found_is _ _ c.spell_locator_or_empty.result c.spell_locator_or_empty.ensures (λ rest h.
    part_spelled c.in_ok-count.count c.args.bytes.now c.in_ok-count.rest.now c.in_ok-rest.rest.now rest.now c.args.line.now c.spell_objective.new.line c.spell_locator_or_empty.new.line c.if-count-ne2.false c.in_ok-count.ensures.some c.in_ok-rest.ensures h)
