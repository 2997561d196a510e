use Rattle.std.proofs.Common.{◌≡◌, map, take}
use Rattle.grasp_model_network.specs.Setting.{others_on, script_neighbour}
use Rattle.grasp_simulator.proofs.opening.neighbours_on.Given as goal

-- those before this one
abbrev pub invariant-loop-other : goal.invariant-loop-other
invariant-loop-other l = l.neighbours ≡ map script_neighbour (others_on l.node (take l.other-index l.line))
