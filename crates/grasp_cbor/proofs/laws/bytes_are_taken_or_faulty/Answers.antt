use Rattle.grasp_cbor.proofs.Standings.{taken_or_named, taken_unnamed}
use Rattle.grasp_cbor.proofs.laws.bytes_are_taken_or_faulty.Goals as goal

pub returns : goal.returns
returns c = record { some = taken_or_named; only = taken_unnamed }
