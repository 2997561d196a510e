use Rattle.grasp_laws_delivery.proofs.FedNetworks as lemmas
use Rattle.grasp_laws_delivery.proofs.sent_laws.nodes_are_fed.Goals as goal

pub returns : goal.returns
returns c = lemmas.nodes_are_fed
