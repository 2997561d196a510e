use Rattle.std.proofs.Common.{refl}
use Rattle.grasp_quick.proofs.PackedWords.{objective_packs}
use Rattle.grasp_quick.proofs.packed.words.pack_objective.Goals as goal

pub returns : goal.returns
returns c =
    objective_packs c.args.line.now c.in_ok-rest.rest.now c.in_ok-rest-2.rest.now c.in_ok-rest-3.rest.now c.in_ok-rest-4.rest.now
    c.in_ok-more.rest.now
    c.args.bytes.now c.put.new.self c.pack_text.new.bytes c.pack_number.new.bytes c.pack_number-2.new.bytes c.pack_optional_value.new.bytes
    c.set_array_head.new.self
    c.len-at.result c.in_ok-more.more _ _ c.in_ok-rest.ensures c.len-at.ensures c.in_ok-put.ensures c.in_ok-rest-2.ensures c.in_ok-rest-3.ensures
    c.in_ok-rest-4.ensures
    c.in_ok-more.ensures.value refl c.in_ok-set_array_head.ensures
