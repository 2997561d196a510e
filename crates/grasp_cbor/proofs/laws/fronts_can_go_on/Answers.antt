use Rattle.grasp_cbor.proofs.Fronts.{front-open, open-front}
use Rattle.grasp_cbor.proofs.Unique.{one_spot}
use Rattle.grasp_cbor.proofs.laws.fronts_can_go_on.Goals as goal

pub returns : goal.returns
returns c = record { can = front-open; front = open-front; spot = one_spot }
