use Rattle.std.proofs.Common.{[], ◌∷◌, refl, arith}
use Rattle.grasp_cbor.specs.DataItem.{unsigned}
use Rattle.grasp_types.specs.Message.{verdict_item}
use Rattle.grasp_wire.proofs.Straight.{kind_ends}
use Rattle.grasp_wire.proofs.direct.kinds.read_end.Goals as goal

pub returns-clause-ends : goal.returns-clause-ends
returns-clause-ends c =
    kind_ends 6 (unsigned c.in_ok-session.session ∷ verdict_item c.in_ok-verdict.verdict ∷ []) c.args.count c.args.bytes.now c.in_ok-verdict.rest.now (omega arith)
    (c.in_ok-session.rest.now, c.in_ok-session.ensures.leads, (c.in_ok-verdict.rest.now, c.in_ok-verdict.ensures.leads, refl))
