use Rattle.std.proofs.Common.{take}
use Rattle.grasp_simulator.specs.Images.{AreToBeHad}
use Rattle.grasp_simulator.proofs.images.are_had.Given as goal

abbrev pub invariant-loop-prefix : goal.invariant-loop-prefix
invariant-loop-prefix l = AreToBeHad l.agent (take l.prefix-index l.prefixes)
