use Rattle.grasp_wire.proofs.Dividing.{one_division}
use Rattle.grasp_wire.proofs.SomeDivision.{some_division}
use Rattle.grasp_wire.proofs.laws.one_division_of_a_stream.Goals as goal

pub returns : goal.returns
returns c = record { some = some_division; only = one_division }
