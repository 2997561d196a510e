use Rattle.grasp_core.proofs.HearAll.{none_heard}
use Rattle.grasp_core.proofs.node_core.NodeCore.hear_all.Goals as goal

pub loop-ending-init : goal.loop-ending-init
loop-ending-init c f x = none_heard c.args.stream c.args.self.now c.args.cutter.now f x
