use Rattle.grasp_pool.specs.Roots.{block_of}
use Rattle.grasp_model_network.proofs.PlanTests.{apart_by_last}
use Rattle.grasp_model_network.proofs.check.are_two_apart.Goals as goal

pub returns-else-last_of-second : goal.returns-else-last_of-second
returns-else-last_of-second c =
    apart_by_last (block_of c.args.first) (block_of c.args.second) c.last_of.result c.last_of-else-last_of-second.result c.last_of.ensures c.last_of-else-last_of-second.ensures c.if-last_of-second.false
