use Rattle.grasp_node_main.proofs.Openings.{agent_opened, core_opened}
use Rattle.grasp_node_main.proofs.first_calls.open_agent.Goals as goal

pub returns-clause-agent : goal.returns-clause-agent
returns-clause-agent c =
    agent_opened c.args.agent.now.pool c.args.agent.now c.register.new.agent c.declare.new.agent c.listen.new.agent c.requires c.in_ok-register.ensures.agent c.in_ok-declare.ensures.agent c.in_ok-listen.ensures.agent

pub returns-clause-calls : goal.returns-clause-calls
returns-clause-calls c =
    core_opened c.args.agent.now.pool c.args.agent.now c.register.new.agent c.declare.new.agent c.listen.new.agent c.requires c.in_ok-register.ensures.agent c.in_ok-declare.ensures.agent c.in_ok-listen.ensures.agent
    c.args.core.now c.register.new.core c.declare.new.core c.listen.new.core c.in_ok-register.ensures.call c.in_ok-declare.ensures.call c.in_ok-listen.ensures.call
