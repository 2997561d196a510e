use Rattle.grasp_quick.proofs.Spelled.{found_is}
use Rattle.grasp_quick.proofs.PackedLines.{part_packs}
use Rattle.grasp_quick.proofs.packed.parts.pack_flood_part.Goals as goal

pub returns : goal.returns
returns c = found_is _ _ c.pack_locator_or_none.result c.pack_locator_or_none.ensures (λ rest h.
    part_packs c.args.line.now c.in_ok-rest.rest.now rest.now c.args.bytes.now c.put_head.new.self c.pack_objective.new.bytes
    c.pack_locator_or_none.new.bytes
    c.in_ok-put_head.ensures c.in_ok-rest.ensures h)
