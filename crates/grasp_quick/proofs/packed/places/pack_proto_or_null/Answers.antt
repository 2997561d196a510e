use Rattle.grasp_quick.proofs.Spelled.{found_is}
use Rattle.grasp_quick.proofs.PackedLines.{known_proto_packs, no_proto_packs}
use Rattle.grasp_quick.proofs.packed.places.pack_proto_or_null.Goals as goal

pub returns-in-Some : goal.returns-in-Some
returns-in-Some c = no_proto_packs c.args.line.now c.in-Some.rest.now c.args.bytes.now c.put.new.self c.in-Some.ensures c.in_ok-put.ensures

pub returns : goal.returns
returns c =
    found_is _ _ c.pack_proto.result c.pack_proto.ensures
    (λ rest h. known_proto_packs c.args.line.now rest.now c.args.bytes.now c.pack_proto.new.bytes h)
