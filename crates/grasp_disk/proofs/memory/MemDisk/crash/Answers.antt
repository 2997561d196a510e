use Rattle.grasp_disk.proofs.Lefts.{left_may}
use Rattle.grasp_disk.proofs.memory.MemDisk.crash.Goals as goal

pub returns-clause-may : goal.returns-clause-may
returns-clause-may c = λ log stands. left_may _ log stands c.args.left
