use Rattle.grasp_laws_node.proofs.DrainedAll.{in_order}
use Rattle.grasp_laws_node.proofs.drain_laws.drains_give_in_order.Goals as goal

pub returns : goal.returns
returns c = in_order
