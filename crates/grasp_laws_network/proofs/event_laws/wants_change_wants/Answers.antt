use Rattle.grasp_laws_network.proofs.Staying as lemmas
use Rattle.grasp_laws_network.proofs.event_laws.wants_change_wants.Goals as goal

pub returns : goal.returns
returns c = lemmas.wants_change_wants
