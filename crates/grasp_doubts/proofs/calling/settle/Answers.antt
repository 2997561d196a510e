use Rattle.grasp_doubts.proofs.Settling.{settle_asked, settle_goes, settles}
use Rattle.grasp_doubts.proofs.calling.settle.Goals as goal

pub turn-requires : goal.turn-requires
turn-requires c = settle_asked c.args.world.now c.args.world.now c.args.node c.args.prefix c.requires

pub returns : goal.returns
returns c = settles c.args.world.now c.turn.new.self c.args.node c.args.prefix c.turn.result c.turn.ensures

pub unreachable-requires : goal.unreachable-requires
unreachable-requires c = settle_goes c.args.world.now c.turn.new.self c.args.node c.args.prefix c.requires c.in-Err.field-0 c.in-Err.ensures
