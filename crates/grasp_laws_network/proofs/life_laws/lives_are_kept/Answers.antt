use Rattle.grasp_laws_network.proofs.LivesKept as lemmas
use Rattle.grasp_laws_network.proofs.life_laws.lives_are_kept.Goals as goal

pub returns : goal.returns
returns c = lemmas.lives_are_kept
