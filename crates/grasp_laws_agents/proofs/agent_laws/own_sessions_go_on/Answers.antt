use Rattle.grasp_laws_agents.proofs.Staying as lemmas
use Rattle.grasp_laws_agents.proofs.agent_laws.own_sessions_go_on.Goals as goal

pub returns : goal.returns
returns c = lemmas.own_sessions_go_on
