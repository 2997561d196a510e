use Rattle.grasp_laws_node_stories.proofs.Acceptances.{acceptances_are}
use Rattle.grasp_laws_node_stories.proofs.laws.acceptances_are_calls.Goals as goal

pub returns : goal.returns
returns c = acceptances_are
