use Rattle.grasp_wire.proofs.Wholes.{whole_fronts, given_whole}
use Rattle.grasp_wire.proofs.laws.cutters_give_whole.Goals as goal

pub returns : goal.returns
returns c = record { divide = whole_fronts; give = given_whole }
