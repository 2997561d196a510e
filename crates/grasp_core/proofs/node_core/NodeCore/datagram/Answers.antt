use Rattle.grasp_core.proofs.Came.{nothing_carried}
use Rattle.grasp_core.proofs.node_core.NodeCore.datagram.Goals as goal

pub returns-in-Ok-None : goal.returns-in-Ok-None
returns-in-Ok-None c = λ x m.
    rw ((rw c.in-Ok-None.field-0-is at c.in-Ok-None.ensures) x m, nothing_carried x.node c.args.link c.args.from) m.stands
