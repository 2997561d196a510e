use Rattle.grasp_quick.proofs.Sequence.{found_both}
use Rattle.grasp_quick.proofs.PackedLines.{side_by_side_packs}
use Rattle.grasp_quick.proofs.packed.parts.pack_answer.Goals as goal

pub returns-in-Some-clause-answer : goal.returns-in-Some-clause-answer
returns-in-Some-clause-answer c = found_both _ _ _ c.pack_locators.result c.pack_locators.ensures.locators c.pack_locators.ensures.some (λ p h some.
    side_by_side_packs p.0 c.args.line.now c.in-Some.rest.now p.1.now c.args.bytes.now c.pack_locators.new.bytes some c.in-Some.ensures h)
