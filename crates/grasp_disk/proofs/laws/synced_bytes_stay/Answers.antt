use Rattle.grasp_disk.proofs.Leaving.{synced_leaves}
use Rattle.grasp_disk.proofs.laws.synced_bytes_stay.Goals as goal

pub returns : goal.returns
returns c = synced_leaves
