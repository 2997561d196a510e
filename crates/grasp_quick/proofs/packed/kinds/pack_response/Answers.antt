use Rattle.std.proofs.Common.{refl}
use Rattle.grasp_quick.proofs.PackedLines.{response_packs}
use Rattle.grasp_quick.proofs.packed.kinds.pack_response.Goals as goal

pub returns : goal.returns
returns c =
    response_packs c.args.line.now c.in_ok-rest.rest.now c.in_ok-rest-2.rest.now c.in_ok-rest-3.rest.now c.in_ok-rest-4.rest.now
    c.in_ok-answers.rest.now c.in_ok-objectives.rest.now
    c.args.bytes.now c.put.new.self c.put_head.new.self c.pack_number.new.bytes c.pack_address.new.bytes c.pack_number-2.new.bytes
    c.pack_answer.new.bytes c.pack_last_objective.new.bytes c.set_array_head.new.self
    c.len-at.result c.in_ok-answers.answers c.in_ok-objectives.objectives _ _ c.in_ok-rest.ensures c.len-at.ensures c.in_ok-put.ensures
    c.in_ok-put_head.ensures
    c.in_ok-rest-2.ensures c.in_ok-rest-3.ensures c.in_ok-rest-4.ensures c.in_ok-answers.ensures.answer c.in_ok-objectives.ensures.objective refl
    c.in_ok-set_array_head.ensures
