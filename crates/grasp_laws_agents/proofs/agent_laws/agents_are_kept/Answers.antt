use Rattle.grasp_laws_agents.proofs.Reserving as lemmas
use Rattle.grasp_laws_agents.proofs.agent_laws.agents_are_kept.Goals as goal

pub returns : goal.returns
returns c = lemmas.agents_are_kept
