use Rattle.grasp_laws_network.proofs.Sent as lemmas
use Rattle.grasp_laws_network.proofs.network_laws.sending_keeps_nodes.Goals as goal

pub returns : goal.returns
returns c = lemmas.sending_keeps_nodes
