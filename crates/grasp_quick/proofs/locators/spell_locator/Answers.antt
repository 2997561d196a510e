use Rattle.std.proofs.Common.{subst}
use Rattle.grasp_cbor.specs.Leading.{LeadsArray}
use Rattle.grasp_quick.proofs.Spelled.{found_is}
use Rattle.grasp_quick.proofs.Sequence.{one_of_array}
use Rattle.grasp_quick.proofs.locators.spell_locator.Goals as goal

pub returns : goal.returns
returns c =
    let head : LeadsArray 4 c.args.bytes.now c.in_ok-count.rest.now = subst (λ n. LeadsArray n c.args.bytes.now c.in_ok-count.rest.now) c.if-count-ne4.false c.in_ok-count.ensures.some in
    found_is _ _ c.spell_locator_parts.result c.spell_locator_parts.ensures (λ rest h. one_of_array 4 _ _ _ c.args.bytes.now c.in_ok-count.rest.now rest.now c.args.line.now c.spell_locator_parts.new.line head h)
