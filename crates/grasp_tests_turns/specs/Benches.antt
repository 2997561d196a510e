-- Inside: what a network of two nodes is kept for while turns are taken in it.
use Rattle.std.specs.Prelude.{◌≡◌, length}
use Rattle.grasp_model_network.specs.Plans.{IsNode}
use Rattle.grasp_model_network.specs.declared.turn.Turn.{Turn}
use Rattle.grasp_simulator.specs.Contract.{MeetsTurn, Network}
use Rattle.grasp_simulator.specs.WorldStands.{WorldStands}
use Rattle.grasp_simulator.specs.declared.world.World.{World}
use Rattle.grasp_tests_turns.specs.declared.step.Step.{Step}
use Rattle.grasp_tests_turns.specs.declared.step.Step.TheVariants as step

-- Inside: so many nodes
abbrev pub HasTwo : Network → Type 0
HasTwo x = (length x.setting.members ≡ 2) × (length x.setting.peers ≡ 2)

-- Inside: the code stands for a network of two nodes
pub record StandsForTwo (world : World) : Type 0 where
  pub network : Network
  pub stands : WorldStands world network
  pub two : HasTwo network

-- Inside: and the turn may be asked for
pub record MayTake (world : World) (turn : Turn) : Type 0 where
  pub network : Network
  pub meets : MeetsTurn (WorldStands world) network turn
  pub two : HasTwo network

-- Inside: the node that the step names is one of two
abbrev pub IsStepFit : Step → Type 0
IsStepFit (step.Datagram index) = Unit {0}
IsStepFit (step.Arrive stream) = Unit {0}
IsStepFit (step.Bytes stream far) = Unit {0}
IsStepFit (step.Want node) = IsNode 2 node
IsStepFit (step.Agent node held) = IsNode 2 node
IsStepFit (step.Register node) = IsNode 2 node
IsStepFit (step.Discover node) = IsNode 2 node
IsStepFit (step.Drain node) = IsNode 2 node
IsStepFit (step.Restart node) = IsNode 2 node
IsStepFit (step.Empty node) = IsNode 2 node
IsStepFit (step.Greedy node) = IsNode 2 node
IsStepFit (step.Settle node) = IsNode 2 node
IsStepFit (step.Dead node) = IsNode 2 node
IsStepFit (step.Tell node) = IsNode 2 node
