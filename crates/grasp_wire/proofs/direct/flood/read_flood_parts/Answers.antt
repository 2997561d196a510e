use Rattle.grasp_types.specs.Message.{flood_part_item, IsFloodPart}
use Rattle.grasp_wire.proofs.Straight.{one_more_read}
use Rattle.grasp_wire.proofs.direct.flood.read_flood_parts.Goals as goal

pub loop-i-preserved : goal.loop-i-preserved
loop-i-preserved c =
    rw c.in-Ok-push.ensures.ok (one_more_read flood_part_item IsFloodPart c.loop-i.held c.in_ok-next.next c.loop-i.i c.args.bytes.now c.loop-i.rest.now c.in_ok-next.after.now c.loop-i.invariant c.in_ok-next.ensures.leads c.in_ok-next.ensures.range)
