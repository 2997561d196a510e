use Rattle.std.proofs.Common.{◌+◌, [], ◌∷◌, map, arith}
use Rattle.std.proofs.lemmas.List.{length-map}
use Rattle.grasp_cbor.specs.DataItem.{unsigned}
use Rattle.grasp_types.specs.Address.{address_item}
use Rattle.grasp_types.specs.Message.{flood_part_item}
use Rattle.grasp_wire.specs.declared.writing.put.Full.{Full}
use Rattle.grasp_wire.proofs.Putting.{array_put}
use Rattle.grasp_wire.proofs.writing.message.put_flood.Goals as goal

pub returns-clause-puts : goal.returns-clause-puts
returns-clause-puts g c =
    array_put Full g.P.Put.Keeps g.P.Put.Counts (g.P.Put.place c.args.out.now) (g.P.Put.place c.put_timed_start.new.out) (g.P.Put.place c.put_flood_parts.new.out)
    (unsigned 9 ∷ unsigned c.args.session ∷ address_item c.args.initiator.now ∷ unsigned c.args.ttl ∷ []) (map flood_part_item c.args.parts.now) (4 + c.len.result) c.put_flood_parts.result
    (omega (arith, c.len.ensures.value, length-map c.args.parts.now flood_part_item)) c.in_ok-put_timed_start.ensures.puts c.put_flood_parts.ensures.puts
