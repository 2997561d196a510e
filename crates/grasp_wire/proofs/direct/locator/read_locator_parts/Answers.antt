use Rattle.std.proofs.lemmas.Option.{IfSome_then}
use Rattle.grasp_wire.proofs.direct.locator.read_locator_parts.Goals as goal

pub returns-clause-ends : goal.returns-clause-ends
returns-clause-ends c = IfSome_then c.read_locator_of.result c.read_locator_of.ensures.ends (λ p ends whole h. ends whole c.args.bytes.now h c.in_ok-kind.ensures.some)
