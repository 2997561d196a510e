use Rattle.std.proofs.Common.{[], ◌∷◌, refl, arith}
use Rattle.grasp_cbor.specs.DataItem.{unsigned}
use Rattle.grasp_types.specs.Address.{address_item}
use Rattle.grasp_types.specs.Objective.{objective_item}
use Rattle.grasp_wire.proofs.Straight.{kind_ends}
use Rattle.grasp_wire.proofs.direct.kinds.read_discovery.Goals as goal

pub returns-clause-ends : goal.returns-clause-ends
returns-clause-ends c =
    kind_ends 1 (unsigned c.in_ok-session.session ∷ address_item c.in_ok-initiator.initiator ∷ objective_item c.in_ok-objective.objective ∷ []) c.args.count c.args.bytes.now c.in_ok-objective.rest.now (omega arith)
    (c.in_ok-session.rest.now, c.in_ok-session.ensures.leads, (c.in_ok-initiator.rest.now, c.in_ok-initiator.ensures.leads, (c.in_ok-objective.rest.now, c.in_ok-objective.ensures.leads, refl)))
