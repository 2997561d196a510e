use Rattle.grasp_recorder.proofs.Took.{own_taken}
use Rattle.grasp_recorder.proofs.traffic.own_call.Goals as goal

pub returns : goal.returns
returns c = own_taken c.args.world.now c.args.node c.args.hold c.agent.result.now _ c.agent.ensures c.in_ok-next.ensures
