use Rattle.grasp_audit.proofs.Bringing.{names_nothing}
use Rattle.grasp_audit.proofs.sides.closing.Goals as goal

pub returns-in-None : goal.returns-in-None
returns-in-None c = names_nothing c.args.world.now c.args.node c.args.stream c.requires c.in-None.ensures
