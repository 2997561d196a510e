use Rattle.grasp_laws_node.proofs.Addressed.Nodes.{sends_known}
use Rattle.grasp_laws_node.proofs.dial_laws.sends_are_known.Goals as goal

pub returns : goal.returns
returns c = sends_known c.ties_are_kept.ensures
