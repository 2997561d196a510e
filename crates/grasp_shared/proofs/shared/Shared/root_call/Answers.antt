use Rattle.grasp_shared.proofs.Turns.{served_from}
use Rattle.grasp_shared.proofs.shared.Shared.root_call.Goals as goal

pub returns-in-Ok-clause-call : goal.returns-in-Ok-clause-call
returns-in-Ok-clause-call g c = served_from _ _ _ _ _ _ _ c.loop.invariant.1 c.loop.invariant.3 c.in-Ok.ensures.call
