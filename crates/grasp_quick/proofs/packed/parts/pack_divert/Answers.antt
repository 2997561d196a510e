use Rattle.std.proofs.Common.{refl}
use Rattle.grasp_quick.proofs.PackedLines.{divert_packs}
use Rattle.grasp_quick.proofs.packed.parts.pack_divert.Goals as goal

pub returns-clause-answer : goal.returns-clause-answer
returns-clause-answer c =
    divert_packs c.in_ok-count.count _ c.len-at.result _ c.args.line.now c.in_ok-rest.rest.now c.in_ok-count.rest.now
    c.args.bytes.now c.put.new.self c.put_head.new.self c.pack_locators.new.bytes c.set_array_head.new.self
    c.in_ok-count.ensures.some c.in_ok-rest.ensures c.len-at.ensures c.in_ok-put.ensures c.in_ok-put_head.ensures c.in_ok-count.ensures.locators refl
    c.in_ok-set_array_head.ensures
