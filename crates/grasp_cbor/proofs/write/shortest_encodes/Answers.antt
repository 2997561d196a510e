use Rattle.grasp_cbor.proofs.Shortest.{Encodes-shortest}
use Rattle.grasp_cbor.proofs.Encoded.{encoded}
use Rattle.grasp_cbor.proofs.write.shortest_encodes.Goals as goal

pub returns-clause-shortest : goal.returns-clause-shortest
returns-clause-shortest c = Encodes-shortest

pub returns-clause-encoded : goal.returns-clause-encoded
returns-clause-encoded c = encoded
