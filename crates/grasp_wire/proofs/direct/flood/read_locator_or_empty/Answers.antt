use Rattle.std.proofs.Common.{[], refl, subst}
use Rattle.grasp_cbor.specs.Leading.{LeadsArray}
use Rattle.grasp_wire.proofs.Straight.{array_leads}
use Rattle.grasp_wire.proofs.direct.flood.read_locator_or_empty.Goals as goal

pub returns-then-count-eq0-clause-leads : goal.returns-then-count-eq0-clause-leads
returns-then-count-eq0-clause-leads c =
    array_leads [] c.in_ok-count.count c.args.bytes.now c.in_ok-count.rest.now c.in_ok-count.rest.now c.if-count-eq0.true c.in_ok-count.ensures.some refl

pub returns-clause-leads : goal.returns-clause-leads
returns-clause-leads c =
    c.in_ok-locator.ensures.ends c.args.bytes.now (subst (λ n. LeadsArray n c.args.bytes.now c.in_ok-count.rest.now) c.if-count-ne4.false c.in_ok-count.ensures.some)
