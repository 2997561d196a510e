use Rattle.std.proofs.Common.{rules}
use Rattle.grasp_disk.specs.Memory.{zeros}
use Rattle.grasp_disk.proofs.memory.zeros.Goals as goal

pub returns-clause-value : goal.returns-clause-value
unfolding zeros
returns-clause-value c = search rules
