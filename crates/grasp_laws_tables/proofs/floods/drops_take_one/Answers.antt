use Rattle.grasp_laws_tables.proofs.FloodLaws.{drops_one}
use Rattle.grasp_laws_tables.proofs.floods.drops_take_one.Goals as goal

pub returns : goal.returns
returns c = drops_one
