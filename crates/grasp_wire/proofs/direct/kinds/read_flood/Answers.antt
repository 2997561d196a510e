use Rattle.std.proofs.Common.{◌∷◌, map, arith}
use Rattle.std.proofs.lemmas.List.{length-map}
use Rattle.grasp_cbor.specs.DataItem.{unsigned}
use Rattle.grasp_types.specs.Address.{address_item}
use Rattle.grasp_types.specs.Message.{flood_part_item}
use Rattle.grasp_wire.proofs.Straight.{kind_ends}
use Rattle.grasp_wire.proofs.direct.kinds.read_flood.Goals as goal

pub returns-clause-ends : goal.returns-clause-ends
returns-clause-ends c =
    kind_ends 9 (unsigned c.in_ok-session.session ∷ address_item c.in_ok-initiator.initiator ∷ unsigned c.in_ok-ttl.ttl ∷ map flood_part_item c.in_ok-parts.parts) c.args.count c.args.bytes.now c.in_ok-parts.rest.now
    (omega (arith, length-map c.in_ok-parts.parts flood_part_item, c.in_ok-parts.ensures.all))
    (c.in_ok-session.rest.now, c.in_ok-session.ensures.leads, (c.in_ok-initiator.rest.now, c.in_ok-initiator.ensures.leads, (c.in_ok-ttl.rest.now, c.in_ok-ttl.ensures.leads, c.in_ok-parts.ensures.leads)))
