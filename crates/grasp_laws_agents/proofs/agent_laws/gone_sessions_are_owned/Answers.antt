use Rattle.grasp_laws_agents.proofs.Owning.{gone_owned}
use Rattle.grasp_laws_agents.proofs.agent_laws.gone_sessions_are_owned.Goals as goal

pub returns : goal.returns
returns c = gone_owned
