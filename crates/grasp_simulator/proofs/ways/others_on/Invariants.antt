use Rattle.std.proofs.Common.{◌≡◌, take}
use Rattle.grasp_model_network.specs.Setting.{others_on}
use Rattle.grasp_simulator.proofs.ways.others_on.Given as goal

-- those before this one
abbrev pub invariant-loop-other : goal.invariant-loop-other
invariant-loop-other l = l.others ≡ others_on l.node (take l.other-index l.line)
