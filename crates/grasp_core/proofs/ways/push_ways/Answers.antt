use Rattle.std.proofs.Common.{◌++◌}
use Rattle.grasp_model_node.specs.Queue.{ways_on}
use Rattle.grasp_core.proofs.WayLists.{more_on}
use Rattle.grasp_core.proofs.ways.push_ways.Goals as goal

pub loop-to-preserved : goal.loop-to-preserved
loop-to-preserved c =
    more_on c.args.link c.loop-to.to c.args.neighbours.now c.loop-to.ways.items (c.args.ways.now.items ++ ways_on c.args.link 0 c.args.neighbours.now) c.push.new.self.items c.loop-to-test.true c.in_ok-push.ensures.items c.loop-to.invariant
