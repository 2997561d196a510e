use Rattle.grasp_laws_agents.proofs.Staying as lemmas
use Rattle.grasp_laws_agents.proofs.agent_laws.own_sessions_stay.Goals as goal

pub returns : goal.returns
returns c = lemmas.own_sessions_stay
