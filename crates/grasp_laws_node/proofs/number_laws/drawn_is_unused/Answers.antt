use Rattle.grasp_laws_node.proofs.Numbers.Used.{drawn_unused}
use Rattle.grasp_laws_node.proofs.number_laws.drawn_is_unused.Goals as goal

pub returns : goal.returns
returns c = drawn_unused
