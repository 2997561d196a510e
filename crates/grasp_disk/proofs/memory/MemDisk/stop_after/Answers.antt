use Rattle.std.proofs.Common.{subst, sym}
use Rattle.grasp_disk.specs.Memory.{MemDiskState, MemStands}
use Rattle.grasp_disk.proofs.Stopping.{stopped}
use Rattle.grasp_disk.proofs.memory.MemDisk.stop_after.Goals as goal

pub returns-clause-stops : goal.returns-clause-stops
returns-clause-stops c = λ log stands all. stopped _ log c.args.calls (subst (λ (m : MemDiskState). MemStands m log) (sym c.self.view_is) stands) all
