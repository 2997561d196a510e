use Rattle.grasp_disk.proofs.Lefts.{may_stand}
use Rattle.grasp_disk.proofs.laws.lefts_may_stand.Goals as goal

pub returns : goal.returns
returns c = may_stand
