use Rattle.grasp_types.specs.Message.{flood_part_item, IsFloodPart}
use Rattle.grasp_wire.proofs.Straight.{AreRead}
use Rattle.grasp_wire.proofs.direct.flood.read_flood_parts.Given as goal

abbrev pub invariant-loop-i : goal.invariant-loop-i
invariant-loop-i l = AreRead flood_part_item IsFloodPart l.held l.i l.bytes l.rest
