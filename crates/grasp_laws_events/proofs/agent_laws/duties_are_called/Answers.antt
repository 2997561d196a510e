use Rattle.grasp_laws_events.proofs.Acting as lemmas
use Rattle.grasp_laws_events.proofs.agent_laws.duties_are_called.Goals as goal

pub returns : goal.returns
returns c = lemmas.duties_are_called
