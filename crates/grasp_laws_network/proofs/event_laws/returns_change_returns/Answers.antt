use Rattle.grasp_laws_network.proofs.Returned as lemmas
use Rattle.grasp_laws_network.proofs.event_laws.returns_change_returns.Goals as goal

pub returns : goal.returns
returns c = lemmas.returns_change_returns
