use Rattle.grasp_laws_network.proofs.Queues as lemmas
use Rattle.grasp_laws_network.proofs.event_laws.queues_grow.Goals as goal

pub returns : goal.returns
returns c = lemmas.queues_grow
