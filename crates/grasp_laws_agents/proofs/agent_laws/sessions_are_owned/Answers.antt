use Rattle.grasp_laws_agents.proofs.Owning.{sessions_owned}
use Rattle.grasp_laws_agents.proofs.agent_laws.sessions_are_owned.Goals as goal

pub returns : goal.returns
returns c = sessions_owned
