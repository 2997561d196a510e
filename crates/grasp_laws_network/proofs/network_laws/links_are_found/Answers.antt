use Rattle.grasp_laws_network.proofs.Links as lemmas
use Rattle.grasp_laws_network.proofs.network_laws.links_are_found.Goals as goal

pub returns : goal.returns
returns c = lemmas.links_are_found
