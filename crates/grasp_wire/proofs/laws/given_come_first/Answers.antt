use Rattle.grasp_wire.proofs.Dividing.{given_come, all_given_at_none, all_given_at_fault}
use Rattle.grasp_wire.proofs.laws.given_come_first.Goals as goal

pub returns : goal.returns
returns c = record { first = given_come; none = all_given_at_none; fault = all_given_at_fault }
