use Rattle.std.proofs.Common.{subst}
use Rattle.std.proofs.lemmas.Option.{IfSome_then}
use Rattle.grasp_cbor.specs.Leading.{LeadsArray}
use Rattle.grasp_wire.proofs.direct.locator.read_locator.Goals as goal

pub returns-clause-leads : goal.returns-clause-leads
returns-clause-leads c =
    let head : LeadsArray 4 c.args.bytes.now c.in_ok-count.rest.now = subst (λ n. LeadsArray n c.args.bytes.now c.in_ok-count.rest.now) c.if-count-ne4.false c.in_ok-count.ensures.some in
    IfSome_then c.read_locator_parts.result c.read_locator_parts.ensures.ends (λ p ends. ends c.args.bytes.now head)
