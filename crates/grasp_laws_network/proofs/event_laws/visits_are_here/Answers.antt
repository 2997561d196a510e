use Rattle.grasp_laws_network.proofs.Here as lemmas
use Rattle.grasp_laws_network.proofs.event_laws.visits_are_here.Goals as goal

pub returns : goal.returns
returns c = lemmas.visits_are_here
