use Rattle.grasp_core.proofs.Came.{flood_lost}
use Rattle.grasp_core.proofs.node_core.NodeCore.keep_and_send.Goals as goal

pub returns-in-Ok-NoPlace-clause-ok : goal.returns-in-Ok-NoPlace-clause-ok
returns-in-Ok-NoPlace-clause-ok c = λ n h.
    let r = (rw c.in-Ok-NoPlace.field-0-is at c.in-Ok-NoPlace.ensures.ok) n h in
    flood_lost _ n c.args.link c.args.session c.args.initiator c.args.ttl c.args.parts.now c.args.flood.now _ r.0 r.1
