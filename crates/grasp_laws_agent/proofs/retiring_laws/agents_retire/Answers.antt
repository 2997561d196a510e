use Rattle.grasp_laws_agent.proofs.Retiring as lemmas
use Rattle.grasp_laws_agent.proofs.retiring_laws.agents_retire.Goals as goal

pub returns : goal.returns
returns c = lemmas.agents_retire
