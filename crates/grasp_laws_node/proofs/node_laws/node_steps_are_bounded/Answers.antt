use Rattle.grasp_laws_session.proofs.Runs.{calls_in_order}
use Rattle.grasp_laws_node.proofs.node_laws.node_steps_are_bounded.Goals as goal

pub returns : goal.returns
returns c = λ n k x w. (calls_in_order n.sessions k.sessions).bounded x w
