use Rattle.grasp_laws_lives.proofs.Disks as lemmas
use Rattle.grasp_laws_lives.proofs.lives_laws.lives_can_end.Goals as goal

pub returns : goal.returns
returns c = lemmas.lives_can_end c.read_bytes_may_stand.ensures
