use Rattle.std.proofs.Common.{◌≡◌, take}
use Rattle.grasp_model_network.proofs.copies.copy_of_line.Given as goal

-- those before this one
abbrev pub invariant-loop-node : goal.invariant-loop-node
invariant-loop-node l = l.copy ≡ take l.node-index l.line
