use Rattle.std.proofs.Common.{map}
use Rattle.grasp_model_node.specs.Declines.{after_declines}
use Rattle.grasp_core.specs.Planned.{planned_as}
use Rattle.grasp_core.proofs.Dropping.{declined_none, declined_more}
use Rattle.grasp_core.proofs.node_core.NodeCore.decline_all.Goals as goal

pub loop-planned-init : goal.loop-planned-init
loop-planned-init c = λ n h. declined_none c.args.self.now n h

pub loop-planned-preserved : goal.loop-planned-preserved
loop-planned-preserved c = λ n h.
    declined_more c.decline_one.new.self n c.loop-planned.yielded c.in-Some.planned (c.decline_one.ensures (after_declines n (map planned_as c.loop-planned.yielded)) (c.loop-planned.invariant n h))
