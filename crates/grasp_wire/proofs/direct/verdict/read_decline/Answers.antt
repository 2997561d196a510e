use Rattle.std.proofs.Common.{[], ◌∷◌, refl, arith}
use Rattle.grasp_cbor.specs.DataItem.{text_string}
use Rattle.grasp_wire.proofs.Straight.{kind_ends}
use Rattle.grasp_wire.proofs.direct.verdict.read_decline.Goals as goal

pub returns-then-count-eq1-clause-ends : goal.returns-then-count-eq1-clause-ends
returns-then-count-eq1-clause-ends c = kind_ends 102 [] c.args.count c.args.bytes.now c.args.bytes.now (omega arith) refl

pub returns-clause-ends : goal.returns-clause-ends
returns-clause-ends c =
    kind_ends 102 (text_string c.in_ok-reason.reason ∷ []) c.args.count c.args.bytes.now c.in_ok-reason.rest.now (omega arith) (c.in_ok-reason.rest.now, c.in_ok-reason.ensures.leads, refl)
