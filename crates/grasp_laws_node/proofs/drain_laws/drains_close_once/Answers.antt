use Rattle.grasp_laws_node.proofs.DrainedAll.{close_once}
use Rattle.grasp_laws_node.proofs.drain_laws.drains_close_once.Goals as goal

pub returns : goal.returns
returns c = close_once
