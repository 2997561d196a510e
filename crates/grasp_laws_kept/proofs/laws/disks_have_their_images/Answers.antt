use Rattle.grasp_laws_kept.proofs.Runs as lemmas
use Rattle.grasp_laws_kept.proofs.laws.disks_have_their_images.Goals as goal

pub returns : goal.returns
returns c = lemmas.kept_states_stand
