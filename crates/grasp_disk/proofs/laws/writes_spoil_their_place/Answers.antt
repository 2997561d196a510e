use Rattle.grasp_disk.proofs.Leaving.{write_leaves}
use Rattle.grasp_disk.proofs.laws.writes_spoil_their_place.Goals as goal

pub returns : goal.returns
returns c = λ s at new ok settled fits. write_leaves s at new ok fits settled
