use Rattle.grasp_disk.proofs.Lefts.{begins_anew}
use Rattle.grasp_disk.proofs.laws.synced_disks_begin_anew.Goals as goal

pub returns : goal.returns
returns c = begins_anew
