use Rattle.std.proofs.Common.{refl}
use Rattle.grasp_wire.proofs.direct.kinds.read_told.Goals as goal

pub returns-clause-leads : goal.returns-clause-leads
returns-clause-leads c = (c.in_ok-session.rest.now, c.in_ok-session.ensures.leads, (c.in_ok-objective.rest.now, c.in_ok-objective.ensures.leads, refl))
