use Rattle.grasp_quick.proofs.Spelled.{found_is}
use Rattle.grasp_quick.proofs.PackedLines.{v6_packs}
use Rattle.grasp_quick.proofs.packed.locators.pack_v6.Goals as goal

pub returns : goal.returns
returns c = found_is _ _ c.pack_number.result c.pack_number.ensures (λ rest h.
    v6_packs c.args.line.now c.in_ok-rest.rest.now c.in_ok-rest-2.rest.now c.in_ok-rest-3.rest.now rest.now
    c.args.bytes.now c.put_head.new.self c.put_head-2.new.self c.pack_ipv6.new.bytes c.pack_proto.new.bytes c.pack_number.new.bytes
    c.in_ok-rest.ensures c.in_ok-put_head.ensures c.in_ok-put_head-2.ensures c.in_ok-rest-2.ensures c.in_ok-rest-3.ensures h)
