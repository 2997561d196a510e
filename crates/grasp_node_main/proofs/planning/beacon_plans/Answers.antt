use Rattle.std.proofs.Common.{refl, length}
use Rattle.std.proofs.lemmas.Option.{slice_get_read}
use Rattle.grasp_node_main.proofs.Configured.{beacon_planned}
use Rattle.grasp_node_main.proofs.planning.beacon_plans.Goals as goal

pub loop-beacon-preserved : goal.loop-beacon-preserved
loop-beacon-preserved c =
    let beacons = c.args.beacons.now in
    let i = c.loop-beacon.beacon-index in
    beacon_planned beacons i c.beacon-item.result c.loop-beacon.plans c.push.new.self c.in_ok-beacon_plan.field-0
    (slice_get_read beacons (length beacons) i c.beacon-item.result refl c.loop-beacon-test.true c.beacon-item.is) c.loop-beacon.invariant c.in_ok-beacon_plan.ensures c.in_ok-push.ensures.ok
