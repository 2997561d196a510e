use Rattle.grasp_types.specs.Message.{flood_part_item, IsFloodPart}
use Rattle.grasp_wire.specs.declared.writing.put.Full.{Full}
use Rattle.grasp_wire.proofs.Putting.{ArePut}
use Rattle.grasp_wire.proofs.writing.lists.put_flood_parts.Given as goal

abbrev pub invariant-loop-part : goal.invariant-loop-part
invariant-loop-part g l = ArePut Full g.P.Put.Keeps g.P.Put.Counts (g.P.Put.Keeps) flood_part_item IsFloodPart l.parts l.part-index (g.P.Put.place l.fn.out) (g.P.Put.place l.out)
