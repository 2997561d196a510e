use Rattle.grasp_laws_network.proofs.LivesLeft as lemmas
use Rattle.grasp_laws_network.proofs.life_laws.events_keep_lives.Goals as goal

pub returns : goal.returns
returns c = lemmas.events_keep_lives
