use Rattle.std.proofs.lemmas.Result.{IfOk-weaker}
use Rattle.grasp_audit.proofs.Asking.{asks_agent}
use Rattle.grasp_audit.proofs.agents.is_of_agent.Goals as goal

pub returns-in-Agent : goal.returns-in-Agent
returns-in-Agent c =
    IfOk-weaker c.is_next.result _ _ (λ is_so h. asks_agent c.args.world.now c.args.line.now _ c.agent.result.now is_so c.requires c.in-Agent.is c.agent.ensures h) c.is_next.ensures
