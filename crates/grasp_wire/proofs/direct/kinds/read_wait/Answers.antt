use Rattle.std.proofs.Common.{[], ◌∷◌, refl, arith}
use Rattle.grasp_cbor.specs.DataItem.{unsigned}
use Rattle.grasp_wire.proofs.Straight.{kind_ends}
use Rattle.grasp_wire.proofs.direct.kinds.read_wait.Goals as goal

pub returns-clause-ends : goal.returns-clause-ends
returns-clause-ends c =
    kind_ends 7 (unsigned c.in_ok-session.session ∷ unsigned c.in_ok-millis.millis ∷ []) c.args.count c.args.bytes.now c.in_ok-millis.rest.now (omega arith)
    (c.in_ok-session.rest.now, c.in_ok-session.ensures.leads, (c.in_ok-millis.rest.now, c.in_ok-millis.ensures.leads, refl))
