use Rattle.grasp_laws_agents.proofs.Serving as lemmas
use Rattle.grasp_laws_agents.proofs.agent_laws.agents_serve.Goals as goal

pub returns : goal.returns
returns c = lemmas.agents_serve
