use Rattle.grasp_wire.proofs.EncodedFirst.{encoded_first}
use Rattle.grasp_wire.proofs.laws.encoded_come_first.Goals as goal

pub returns : goal.returns
returns c = encoded_first
