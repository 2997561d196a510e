use Rattle.grasp_doubts.proofs.Questions.{asking_node, asks}
use Rattle.grasp_doubts.proofs.asking.ask.Goals as goal

pub agent-requires : goal.agent-requires
agent-requires c = asking_node c.args.world.now c.args.doubter.now c.args.node c.requires

pub returns : goal.returns
returns c =
    asks c.args.world.now c.args.doubter.now c.ask.new.self c.args.node c.args.prefix c.args.peer c.agent.result.now c.agent.ensures c.locator_of.result c.locator_of.ensures c.ask.result c.ask.ensures.reply
    c.ask.ensures.after
