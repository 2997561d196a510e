use Rattle.std.proofs.Common.{rules}
use Rattle.grasp_disk.proofs.Spoiling.{nothing_written}
use Rattle.grasp_disk.proofs.memory.MemDiskDisk.write.Goals as goal

pub returns-in_err-count-clause-spoilt : goal.returns-in_err-count-clause-spoilt
returns-in_err-count-clause-spoilt c = search (nothing_written, rules)
