use Rattle.grasp_audit.proofs.Bringing.{names_closing}
use Rattle.grasp_audit.proofs.sides.closing_on.Goals as goal

pub returns : goal.returns
returns c =
    names_closing c.streams_are_ready.ensures c.args.world.now c.args.node c.args.stream c.args.number c.args.far c.has_side.result c.requires.node c.requires.stream c.has_side.ensures c.named_if.result c.named_if.ensures
