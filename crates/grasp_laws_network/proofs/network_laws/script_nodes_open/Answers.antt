use Rattle.grasp_laws_network.proofs.Opened as lemmas
use Rattle.grasp_laws_network.proofs.network_laws.script_nodes_open.Goals as goal

pub returns : goal.returns
returns c = lemmas.script_nodes_open
