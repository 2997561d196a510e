use Rattle.grasp_wire.proofs.Dividing.{one_message}
use Rattle.grasp_wire.proofs.laws.one_message_for_bytes.Goals as goal

pub returns : goal.returns
returns c = one_message
