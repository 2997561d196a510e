use Rattle.grasp_wire.proofs.Dividing.{grows}
use Rattle.grasp_wire.proofs.Stays.{division_stays}
use Rattle.grasp_wire.proofs.laws.divisions_grow.Goals as goal

pub returns : goal.returns
returns c = record { grow = grows; stay = division_stays }
