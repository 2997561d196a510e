use Rattle.grasp_laws_agent.proofs.Retiring as lemmas
use Rattle.grasp_laws_agent.proofs.retiring_laws.settling_keeps.Goals as goal

pub returns : goal.returns
returns c = lemmas.settling_keeps
