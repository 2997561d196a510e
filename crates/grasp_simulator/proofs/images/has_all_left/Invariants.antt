use Rattle.grasp_simulator.proofs.ImageParts.{LeftBelow}
use Rattle.grasp_simulator.proofs.images.has_all_left.Given as goal

abbrev pub invariant-loop-i : goal.invariant-loop-i
invariant-loop-i l = LeftBelow l.agent l.prefixes l.i
