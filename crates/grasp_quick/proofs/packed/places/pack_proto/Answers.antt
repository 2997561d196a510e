use Rattle.std.proofs.Common.{refl}
use Rattle.grasp_types.specs.declared.address.Proto.TheVariants.{Tcp, Udp}
use Rattle.grasp_quick.proofs.PackedLines.{proto_packs}
use Rattle.grasp_quick.proofs.packed.places.pack_proto.Goals as goal

pub returns-in-Some : goal.returns-in-Some
returns-in-Some c =
    proto_packs Tcp 6 c.args.line.now c.in-Some.rest.now c.args.bytes.now c.put_head.new.self c.in-Some.ensures refl c.in_ok-put_head.ensures

pub returns : goal.returns
returns c =
    proto_packs Udp 17 c.args.line.now c.in_ok-rest.rest.now c.args.bytes.now c.put_head-2.new.self c.in_ok-rest.ensures refl
    c.in_ok-put_head-2.ensures
