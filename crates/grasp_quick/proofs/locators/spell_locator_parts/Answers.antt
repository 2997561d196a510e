use Rattle.grasp_quick.proofs.Spelled.{found_is}
use Rattle.grasp_quick.proofs.Sequence.{array_of_kind}
use Rattle.grasp_quick.proofs.locators.spell_locator_parts.Goals as goal

pub returns : goal.returns
returns c = found_is _ _ c.spell_locator_of.result c.spell_locator_of.ensures (λ rest h.
    array_of_kind 4 c.in_ok-kind.kind _ _ _ c.args.bytes.now c.in_ok-kind.rest.now rest.now c.args.line.now c.spell_locator_of.new.line c.in_ok-kind.ensures.some h)
