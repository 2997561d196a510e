use Rattle.grasp_wire.proofs.Dividing.{one_kind}
use Rattle.grasp_wire.proofs.Rests.{no_message}
use Rattle.grasp_wire.proofs.laws.one_kind_of_rest.Goals as goal

pub returns-clause-kind : goal.returns-clause-kind
returns-clause-kind c = one_kind

pub returns-clause-begins : goal.returns-clause-begins
returns-clause-begins c = no_message
