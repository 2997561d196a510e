use Rattle.grasp_simulator.proofs.ImageParts.{NoneBelow}
use Rattle.grasp_simulator.proofs.images.has.Given as goal

abbrev pub invariant-loop-other : goal.invariant-loop-other
invariant-loop-other l = NoneBelow l.prefixes l.prefix l.other-index
