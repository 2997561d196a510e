use Rattle.grasp_laws_events.proofs.Acting as lemmas
use Rattle.grasp_laws_events.proofs.agent_laws.acts_are_called.Goals as goal

pub returns : goal.returns
returns c = lemmas.acts_are_called
