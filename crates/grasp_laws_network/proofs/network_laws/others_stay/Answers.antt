use Rattle.grasp_laws_network.proofs.Others as lemmas
use Rattle.grasp_laws_network.proofs.network_laws.others_stay.Goals as goal

pub returns : goal.returns
returns c = lemmas.others_stay
