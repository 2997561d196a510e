use Rattle.grasp_disk.proofs.Leaving.{same_may}
use Rattle.grasp_disk.proofs.laws.read_bytes_may_stand.Goals as goal

pub returns : goal.returns
returns c = same_may
