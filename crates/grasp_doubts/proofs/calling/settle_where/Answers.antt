use Rattle.grasp_doubts.proofs.Settling.{can_settle_some, settles_none, settles_some}
use Rattle.grasp_doubts.proofs.calling.settle_where.Goals as goal

pub settle-requires : goal.settle-requires
settle-requires c = can_settle_some c.args.world.now c.args.node c.args.prefix c.in-Some.prefix c.in-Some.is c.requires

pub returns-in-Some : goal.returns-in-Some
returns-in-Some c = settles_some c.args.world.now c.settle.new.world c.args.node c.args.prefix c.in-Some.prefix c.in-Some.is c.settle.ensures

pub returns-in-None : goal.returns-in-None
returns-in-None c = settles_none c.args.world.now c.args.node c.args.prefix c.in-None.is
