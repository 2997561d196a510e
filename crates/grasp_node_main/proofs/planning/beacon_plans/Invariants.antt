use Rattle.std.proofs.Common.{◌≡◌, map, take}
use Rattle.grasp_node_main.specs.Plans.{beacon_plan_of}
use Rattle.grasp_node_main.proofs.planning.beacon_plans.Given as goal

abbrev pub invariant-loop-beacon : goal.invariant-loop-beacon
invariant-loop-beacon l = l.plans ≡ map beacon_plan_of (take l.beacon-index l.beacons)
