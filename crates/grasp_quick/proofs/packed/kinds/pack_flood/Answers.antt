use Rattle.std.proofs.Common.{refl}
use Rattle.grasp_quick.proofs.PackedLines.{flood_packs}
use Rattle.grasp_quick.proofs.packed.kinds.pack_flood.Goals as goal

pub returns : goal.returns
returns c =
    flood_packs c.args.line.now c.in_ok-rest.rest.now c.in_ok-rest-2.rest.now c.in_ok-rest-3.rest.now c.in_ok-rest-4.rest.now c.in_ok-parts.rest.now
    c.args.bytes.now c.put.new.self c.put_head.new.self c.pack_number.new.bytes c.pack_address.new.bytes c.pack_number-2.new.bytes
    c.pack_flood_parts.new.bytes c.set_array_head.new.self
    c.len-at.result c.in_ok-parts.parts _ _ c.in_ok-rest.ensures c.len-at.ensures c.in_ok-put.ensures c.in_ok-put_head.ensures c.in_ok-rest-2.ensures
    c.in_ok-rest-3.ensures c.in_ok-rest-4.ensures
    c.in_ok-parts.ensures.parts c.in_ok-parts.ensures.some refl c.in_ok-set_array_head.ensures
