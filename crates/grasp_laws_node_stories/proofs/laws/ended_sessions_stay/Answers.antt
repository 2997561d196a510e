use Rattle.grasp_laws_node_stories.proofs.Acceptances.{ended_stay}
use Rattle.grasp_laws_node_stories.proofs.laws.ended_sessions_stay.Goals as goal

pub returns : goal.returns
returns c = ended_stay
