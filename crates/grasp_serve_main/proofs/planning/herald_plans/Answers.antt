use Rattle.std.proofs.Common.{refl, length}
use Rattle.std.proofs.lemmas.Option.{slice_get_read}
use Rattle.grasp_serve_main.proofs.Planned.{herald_planned}
use Rattle.grasp_serve_main.proofs.planning.herald_plans.Goals as goal

pub loop-beacon-preserved : goal.loop-beacon-preserved
loop-beacon-preserved c =
    let beacons = c.args.beacons.now in
    let i = c.loop-beacon.beacon-index in
    herald_planned c.args.every beacons i c.beacon-item.result c.loop-beacon.plans c.push.new.self c.in_ok-herald_plan.field-0
    (slice_get_read beacons (length beacons) i c.beacon-item.result refl c.loop-beacon-test.true c.beacon-item.is) c.loop-beacon.invariant c.in_ok-herald_plan.ensures c.in_ok-push.ensures.ok
