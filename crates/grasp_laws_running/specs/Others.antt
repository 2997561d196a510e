-- The calls of a running node's other agents: they are such as other agents of a network's member may make.
use Rattle.std.specs.List.{AllByRecursion}
use Rattle.std.specs.Prelude.{◌≡◌, ◌≢◌, ◌≤◌, ◌<◌, ◌+◌, ◌^◌, ℕ, List, Option, Some, slice_get}
use Rattle.std.specs.Str.{IsUtf8}
use Rattle.grasp_model_network.specs.Ranges.{IsCall}
use Rattle.grasp_node_main.specs.Crew.{crew_of}
use Rattle.grasp_node_main.specs.Runs.{Ran}
use Rattle.grasp_node_main.specs.Tells.{Told}
use Rattle.grasp_node_main.specs.declared.plan.BeaconPlan.{BeaconPlan}
use Rattle.grasp_node_main.specs.declared.plan.DaemonPlan.{DaemonPlan}
use Rattle.grasp_node_main.specs.declared.worker.Worker.{Worker}
use Rattle.grasp_shared.specs.History.{own_calls}
use Rattle.grasp_types.specs.Objective.{IsValue}
use Rattle.grasp_types.specs.declared.traffic.Input.{Input}
use Rattle.grasp_types.specs.declared.traffic.Input.TheVariants as input

-- what a beacon is to announce is within its ranges
pub record IsInRange (b : BeaconPlan) : Type 0 where
  pub name : IsUtf8 b.name
  pub value : IsValue b.value
  pub ttl : b.ttl < 2 ^ 32
  pub loops : b.loops < 2 ^ 8

-- a call that isn't made as agent 1, and whose parts are within their ranges
abbrev pub IsOthersCall : Input → Type 0
IsOthersCall (input.Api asa call) = (asa ≢ 1) × IsCall call
IsOthersCall _ = ⊥

-- each call of an agent of a node that ran is such a one, but those of its agent of prefixes, which is the first
abbrev pub OthersCallAsOthers : Type 0
OthersCallAsOthers = (plan : DaemonPlan) (old new : Told) (workers : Option (List Worker)) (ran : Ran plan old new workers) → AllByRecursion IsInRange plan.beacons
    → (place : ℕ) (w : Worker) → 1 ≤ place → slice_get (crew_of plan) place ≡ Some w → AllByRecursion (λ e. IsOthersCall e.input) (own_calls (place + 1) ran.history)
