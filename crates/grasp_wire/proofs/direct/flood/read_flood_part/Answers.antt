use Rattle.std.proofs.Common.{[], ◌∷◌, refl, arith}
use Rattle.grasp_types.specs.Objective.{objective_item}
use Rattle.grasp_types.specs.Message.{locator_or_empty}
use Rattle.grasp_wire.proofs.Straight.{array_leads}
use Rattle.grasp_wire.proofs.direct.flood.read_flood_part.Goals as goal

pub returns-clause-leads : goal.returns-clause-leads
returns-clause-leads c =
    array_leads (objective_item c.in_ok-objective.objective ∷ locator_or_empty c.in_ok-locator.locator ∷ []) c.in_ok-count.count c.args.bytes.now c.in_ok-count.rest.now c.in_ok-locator.rest.now (omega arith) c.in_ok-count.ensures.some
    (c.in_ok-objective.rest.now, c.in_ok-objective.ensures.leads, (c.in_ok-locator.rest.now, c.in_ok-locator.ensures.leads, refl))
