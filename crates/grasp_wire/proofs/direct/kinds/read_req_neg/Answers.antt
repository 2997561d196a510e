use Rattle.std.proofs.Common.{[], ◌∷◌, arith}
use Rattle.grasp_cbor.specs.DataItem.{unsigned}
use Rattle.grasp_types.specs.Objective.{objective_item}
use Rattle.grasp_wire.proofs.Straight.{kind_ends}
use Rattle.grasp_wire.proofs.direct.kinds.read_req_neg.Goals as goal

pub returns-clause-ends : goal.returns-clause-ends
returns-clause-ends c =
    kind_ends 3 (unsigned c.in_ok-session.session ∷ objective_item c.in_ok-session.objective ∷ []) c.args.count c.args.bytes.now c.in_ok-session.rest.now (omega (arith, c.in_ok-session.ensures.counts)) c.in_ok-session.ensures.leads
