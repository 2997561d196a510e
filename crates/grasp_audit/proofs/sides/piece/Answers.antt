use Rattle.grasp_audit.proofs.Bringing.{names_no_piece}
use Rattle.grasp_audit.proofs.sides.piece.Goals as goal

pub returns-in-None : goal.returns-in-None
returns-in-None c = names_no_piece c.args.world.now c.args.node c.args.stream c.args.bytes.now c.requires c.in-None.ensures
