use Rattle.grasp_doubts.proofs.AgentCalls.{agent_asked, agent_stops, node_then, sees_call}
use Rattle.grasp_doubts.proofs.seeing.call_agent.Goals as goal

pub step-requires : goal.step-requires
step-requires c = agent_asked c.args.world.now c.args.world.now c.args.doubter.now c.args.doubter.now c.args.node c.args.hold c.requires

pub agent-requires : goal.agent-requires
agent-requires c = node_then c.args.world.now c.step.new.self c.args.doubter.now c.args.doubter.now c.args.node c.args.hold c.requires c.in-Ok.report c.in-Ok.ensures

pub returns-in-Ok : goal.returns-in-Ok
returns-in-Ok c =
    sees_call c.args.world.now c.step.new.self c.args.doubter.now c.see.new.doubter c.args.node c.args.hold c.in-Ok.report c.in-Ok.ensures c.agent.result.now c.agent.ensures c.see.ensures

pub returns-in-Err : goal.returns-in-Err
returns-in-Err c = agent_stops c.args.world.now c.step.new.self c.args.doubter.now c.args.doubter.now c.args.node c.args.hold c.in-Err.stop c.in-Err.ensures
