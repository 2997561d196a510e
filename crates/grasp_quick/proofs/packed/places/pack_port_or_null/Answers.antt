use Rattle.grasp_quick.proofs.Spelled.{found_is}
use Rattle.grasp_quick.proofs.PackedLines.{known_port_packs, no_port_packs}
use Rattle.grasp_quick.proofs.packed.places.pack_port_or_null.Goals as goal

pub returns-in-Some : goal.returns-in-Some
returns-in-Some c = no_port_packs c.args.line.now c.in-Some.rest.now c.args.bytes.now c.put.new.self c.in-Some.ensures c.in_ok-put.ensures

pub returns : goal.returns
returns c =
    found_is _ _ c.pack_number.result c.pack_number.ensures
    (λ rest h. known_port_packs c.args.line.now rest.now c.args.bytes.now c.pack_number.new.bytes h)
