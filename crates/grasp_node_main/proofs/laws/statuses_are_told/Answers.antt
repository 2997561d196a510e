use Rattle.grasp_node_main.proofs.Telling.{told}
use Rattle.grasp_node_main.proofs.laws.statuses_are_told.Goals as goal

pub returns : goal.returns
returns c = told
