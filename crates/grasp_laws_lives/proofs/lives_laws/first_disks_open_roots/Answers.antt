use Rattle.grasp_laws_lives.proofs.Disks as lemmas
use Rattle.grasp_laws_lives.proofs.lives_laws.first_disks_open_roots.Goals as goal

pub returns : goal.returns
returns c = lemmas.first_disks_open_roots
