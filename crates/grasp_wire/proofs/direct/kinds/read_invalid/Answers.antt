use Rattle.std.proofs.Common.{◌∷◌, arith}
use Rattle.grasp_cbor.specs.DataItem.{unsigned}
use Rattle.grasp_types.specs.Objective.{optional}
use Rattle.grasp_wire.proofs.Straight.{kind_ends}
use Rattle.grasp_wire.proofs.direct.kinds.read_invalid.Goals as goal

pub returns-clause-ends : goal.returns-clause-ends
returns-clause-ends c =
    kind_ends 99 (unsigned c.in_ok-session.session ∷ optional c.in_ok-detail.detail) c.args.count c.args.bytes.now c.in_ok-detail.rest.now (omega (arith, c.in_ok-detail.ensures.counts))
    (c.in_ok-session.rest.now, c.in_ok-session.ensures.leads, c.in_ok-detail.ensures.leads)
