use Rattle.grasp_node_main.proofs.Begins.{core_begins}
use Rattle.grasp_node_main.proofs.opening.open_core.Goals as goal

pub returns-in-Ok : goal.returns-in-Ok
returns-in-Ok c = core_begins c.args.node c.in-Ok.core c.in-Ok.ensures.opened c.in-Ok.ensures.good
