use Rattle.grasp_cbor.proofs.Cases.{some_ending, one_ending}
use Rattle.grasp_cbor.proofs.laws.endings_are_apart.Goals as goal

pub returns : goal.returns
returns c = record { some = some_ending; only = one_ending }
