use Rattle.std.proofs.lemmas.Option.{IfSome_then}
use Rattle.grasp_wire.proofs.direct.read_message.Goals as goal

pub returns-clause-leads : goal.returns-clause-leads
returns-clause-leads c = IfSome_then c.read_kind.result c.read_kind.ensures.ends (λ p ends. ends c.args.bytes.now c.in_ok-count.rest.now c.in_ok-count.ensures.some c.in_ok-kind.ensures.some)
