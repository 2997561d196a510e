use Rattle.grasp_laws_network.proofs.Openings as lemmas
use Rattle.grasp_laws_network.proofs.network_laws.worlds_begin.Goals as goal

pub returns : goal.returns
returns c = lemmas.worlds_begin
