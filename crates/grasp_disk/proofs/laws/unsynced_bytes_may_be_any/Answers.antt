use Rattle.std.proofs.Common.{arith}
use Rattle.grasp_disk.proofs.Leaving.{any_may}
use Rattle.grasp_disk.proofs.laws.unsynced_bytes_may_be_any.Goals as goal

pub returns : goal.returns
returns c = λ s at new any ok long fits. any_may s at new ok fits any (omega (arith, long))
