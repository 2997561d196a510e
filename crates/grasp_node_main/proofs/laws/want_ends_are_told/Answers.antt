use Rattle.grasp_node_main.proofs.WantLines.{want_ends_told}
use Rattle.grasp_node_main.proofs.laws.want_ends_are_told.Goals as goal

pub returns : goal.returns
returns c = want_ends_told
