use Rattle.grasp_laws_network.proofs.LivesLeft as lemmas
use Rattle.grasp_laws_network.proofs.life_laws.settled_stay.Goals as goal

pub returns : goal.returns
returns c = lemmas.settled_stay
