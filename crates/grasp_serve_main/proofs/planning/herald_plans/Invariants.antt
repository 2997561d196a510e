use Rattle.std.proofs.Common.{◌≡◌, map, take}
use Rattle.grasp_serve_main.specs.Plans.{herald_plan_of}
use Rattle.grasp_serve_main.proofs.planning.herald_plans.Given as goal

abbrev pub invariant-loop-beacon : goal.invariant-loop-beacon
invariant-loop-beacon l = l.plans ≡ map (herald_plan_of l.every) (take l.beacon-index l.beacons)
