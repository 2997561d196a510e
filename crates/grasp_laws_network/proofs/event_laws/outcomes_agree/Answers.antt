use Rattle.grasp_laws_network.proofs.Agreeing as lemmas
use Rattle.grasp_laws_network.proofs.event_laws.outcomes_agree.Goals as goal

pub returns : goal.returns
returns c = lemmas.outcomes_agree
