use Rattle.std.proofs.Common.{◌∷◌, map, refl, subst, arith}
use Rattle.std.proofs.lemmas.List.{length-map}
use Rattle.grasp_cbor.specs.DataItem.{unsigned}
use Rattle.grasp_cbor.specs.Leading.{Leads}
use Rattle.grasp_types.specs.Address.{locator_item}
use Rattle.grasp_wire.proofs.Straight.{array_leads}
use Rattle.grasp_wire.proofs.direct.answer.read_divert.Goals as goal

pub returns-clause-leads : goal.returns-clause-leads
returns-clause-leads c =
    let locators = c.in_ok-locators.locators in (
      c.in_ok-locators.rest.now,
      array_leads (unsigned 100 ∷ map locator_item locators) c.in_ok-count.count c.args.bytes.now c.in_ok-count.rest.now c.in_ok-locators.rest.now
          (omega (arith, length-map locators locator_item, c.len.ensures.value)) c.in_ok-count.ensures.some
          (c.in_ok-kind.rest.now, subst (λ n. Leads (unsigned n) c.in_ok-count.rest.now c.in_ok-kind.rest.now) c.if-kind-ne100.false c.in_ok-kind.ensures.some, c.in_ok-locators.ensures.leads),
      refl,
    )
